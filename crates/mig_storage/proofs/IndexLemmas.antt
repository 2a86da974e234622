-- Rows that are looked up by an index are those with the value, in order.
use Rattle.std.proofs.Common.{◌≡◌, ℕ, zero, suc, ◌+◌, ◌-◌, ◌<◌, ◌≤◌, ◌⊎◌, inl, inr, Bool, true, false, cond, List, [], ◌∷◌, map, get_or, Option, Some, None, refl, sym, ap, ◌∙◌, subst, arith}
use Rattle.std.specs.Prelude.{filter, ◌==◌}
use Rattle.std.proofs.lemmas.Bool.{ne_eqb}
use Rattle.mig_meaning.specs.declared.states.Row.{Row}
use Rattle.mig_meaning.specs.declared.states.Placed.{Placed}
use Rattle.mig_schema.specs.declared.values.Value.{Value}
use Rattle.mig_meaning.specs.Rows.{value_at}
use Rattle.mig_meaning.specs.Values.{value_eq}
use Rattle.mig_storage.specs.declared.slots.Slot.{Slot}
use Rattle.mig_storage.specs.Slots.{rows_in, no_slot}

-- whether the value of a row in column c is this one
abbrev pub of_value : ℕ → Value → Placed → Bool
of_value c v p = value_eq (value_at p c) v

-- the rows with this value among those in the slots that the entries name
abbrev pub rows_at : ℕ → Value → List Slot → List (ℕ × ℕ) → List Placed
rows_at c v slots es = filter (of_value c v) (rows_in (map (λ (e : ℕ × ℕ). get_or slots e.1 no_slot) es))

-- whether there is a row in a slot that passes a test
abbrev pub row_passes : (Placed → Bool) → ℕ → Option Row → Bool
row_passes test id None = false
row_passes test id (Some r) = test (record { id = id; row = r })

abbrev pub passes : (Placed → Bool) → Slot → Bool
passes test s = row_passes test s.id s.row

-- the places of these entries rise, from n on
abbrev pub RisesFrom : ℕ → List (ℕ × ℕ) → Type 0
RisesFrom n [] = Unit {0}
RisesFrom n (e ∷ es) = (n ≤ e.1) × RisesFrom (e.1 + 1) es

-- whether one of these entries has a place
abbrev pub has_place : ℕ → List (ℕ × ℕ) → Bool
has_place p [] = false
has_place p (e ∷ es) = cond (e.1 == p) true (has_place p es)

refuted : (b : Bool) → (b ≡ true → ⊥) → b ≡ false
refuted true f = absurd (f refl)
refuted false f = refl

not_true : false ≡ true → ⊥
not_true h = cc

skip : (test : Placed → Bool) (s : Slot) (xs : List Slot) → passes test s ≡ false → filter test (rows_in (s ∷ xs)) ≡ filter test (rows_in xs)
skip test s xs h = go s.row h
  where
    go : (o : Option Row) → row_passes test s.id o ≡ false → filter test (rows_in (record { id = s.id; row = o } ∷ xs)) ≡ filter test (rows_in xs)
    go None k = refl
    go (Some r) k = rw k refl

same-behind : (test : Placed → Bool) (s : Slot) (xs ys : List Slot) → filter test (rows_in xs) ≡ filter test (rows_in ys) → filter test (rows_in (s ∷ xs)) ≡ filter test (rows_in (s ∷ ys))
same-behind test s xs ys h = go s.row
  where
    go : (o : Option Row) → filter test (rows_in (record { id = s.id; row = o } ∷ xs)) ≡ filter test (rows_in (record { id = s.id; row = o } ∷ ys))
    go None = h
    go (Some r) = ap (λ zs. cond (test (record { id = s.id; row = r })) (record { id = s.id; row = r } ∷ zs) zs) h

no-place : (es : List (ℕ × ℕ)) (n p : ℕ) → RisesFrom n es → p < n → has_place p es ≡ false
no-place [] n p r h = refl
no-place (e ∷ es) n p r h = rw (ne_eqb e.1 p (λ q. omega (arith, q, h, r.0))) (no-place es (e.1 + 1) p r.1 (omega (arith, h, r.0)))

-- past the end there is no row
none-past : (test : Placed → Bool) (at : ℕ → Slot) (n : ℕ) (es : List (ℕ × ℕ)) → ((p : ℕ) → n ≤ p → at p ≡ no_slot) → RisesFrom n es → filter test (rows_in (map (λ (e : ℕ × ℕ). at e.1) es)) ≡ []
none-past test at n [] past r = refl
none-past test at n (e ∷ es) past r =
    skip test (at e.1) (map (λ (d : ℕ × ℕ). at d.1) es) (ap (passes test) (past e.1 r.0)) ∙ none-past test at (e.1 + 1) es (λ p h. past p (omega (arith, h, r.0))) r.1

here-or-past : (n p : ℕ) → n ≤ p → (n ≡ p) ⊎ (n < p)
here-or-past zero zero h = inl refl
here-or-past zero (suc p) h = inr (omega arith)
here-or-past (suc n) zero h = absurd (omega (arith, h))
here-or-past (suc n) (suc p) h = go (here-or-past n p (omega (arith, h)))
  where
    go : (n ≡ p) ⊎ (n < p) → (suc n ≡ suc p) ⊎ (suc n < suc p)
    go (inl e) = inl (ap suc e)
    go (inr l) = inr (omega (arith, l))

-- slots that stand from place n on, and entries for each row of them that passes
pub looked_up : (test : Placed → Bool) (at : ℕ → Slot) (slots : List Slot) (n : ℕ) (es : List (ℕ × ℕ)) → ((k : ℕ) → get_or slots k no_slot ≡ at (n + k)) → RisesFrom n es → ((p : ℕ) → n ≤ p → passes test (at p) ≡ true → has_place p es ≡ true) → filter test (rows_in (map (λ (e : ℕ × ℕ). at e.1) es)) ≡ filter test (rows_in slots)
looked_up test at [] n es stand r all = none-past test at n es (λ p h. ap at (sub_back p n h) ∙ sym (stand (p - n))) r
  where
    sub_back : (p n : ℕ) → n ≤ p → p ≡ n + (p - n)
    sub_back p n h = omega (arith, h)
looked_up test at (s ∷ slots) n [] stand r all =
    let here : s ≡ at n = stand 0 ∙ ap at (omega arith) in
    let next : (k : ℕ) → get_or slots k no_slot ≡ at (n + 1 + k) = λ k. stand (suc k) ∙ ap at (omega arith) in
    let fails : passes test s ≡ false = refuted (passes test s) (λ h. not_true (all n (omega arith) (ap (passes test) (sym here) ∙ h))) in
    looked_up test at slots (n + 1) [] next tt (λ p h k. all p (omega (arith, h)) k) ∙ sym (skip test s slots fails)
looked_up test at (s ∷ slots) n (e ∷ es) stand r all = go (here-or-past n e.1 r.0)
    (λ q. looked_up test at slots (n + 1) es next (subst (λ m. RisesFrom (m + 1) es) (sym q) r.1) (behind q))
    (λ l. looked_up test at slots (n + 1) (e ∷ es) next (omega (arith, l), r.1) (λ p h k. all p (omega (arith, h)) k))
  where
    here : s ≡ at n
    here = stand 0 ∙ ap at (omega arith)

    next : (k : ℕ) → get_or slots k no_slot ≡ at (n + 1 + k)
    next k = stand (suc k) ∙ ap at (omega arith)

    behind : n ≡ e.1 → (p : ℕ) → n + 1 ≤ p → passes test (at p) ≡ true → has_place p es ≡ true
    behind q p h k = let found = all p (omega (arith, h)) k in rw (ne_eqb e.1 p (λ d. omega (arith, d, q, h))) at found

    go : (n ≡ e.1) ⊎ (n < e.1) → (n ≡ e.1 → filter test (rows_in (map (λ (d : ℕ × ℕ). at d.1) es)) ≡ filter test (rows_in slots)) → (n < e.1 → filter test (rows_in (map (λ (d : ℕ × ℕ). at d.1) (e ∷ es))) ≡ filter test (rows_in slots)) → filter test (rows_in (map (λ (d : ℕ × ℕ). at d.1) (e ∷ es))) ≡ filter test (rows_in (s ∷ slots))
    go (inl q) rest more =
        ap (λ x. filter test (rows_in (x ∷ map (λ (d : ℕ × ℕ). at d.1) es))) (sym (here ∙ ap at q)) ∙ same-behind test s (map (λ (d : ℕ × ℕ). at d.1) es) slots (rest q)
    go (inr l) rest more =
        let fails : passes test s ≡ false = refuted (passes test s) (λ h. not_true (sym (no-place (e ∷ es) e.1 n (omega arith, r.1) l) ∙ all n (omega arith) (ap (passes test) (sym here) ∙ h))) in
        more l ∙ sym (skip test s slots fails)
