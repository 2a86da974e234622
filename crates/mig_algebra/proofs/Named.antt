-- Some of a host's variables come last, in an order of their own: choices for the others and for them, put back into the old order.
use Rattle.std.proofs.Common.{◌≡◌, ◌≢◌, ℕ, ◌-◌, ◌≤◌, Bool, true, false, cond, not, ◌||◌, List, [], ◌∷◌, ◌++◌, map, refl, sym, ap, ap₂, ◌∙◌, subst, append_assoc, inl, inr, ◌⊎◌}
use Rattle.std.specs.Prelude.{◌==◌, filter}
use Rattle.std.proofs.lemmas.Bool.{cases_Bool, eqb-true, eqb-false, ne_eqb, eq-eqb, or_parts}
use Rattle.mig_meaning.specs.declared.states.Placed.{Placed}
use Rattle.mig_meaning.specs.Lists.{total, place, has, In, Each}
use Rattle.mig_meaning.specs.Rows.{no_row}
use Rattle.mig_meaning.proofs.StateLaw.{each-in}
use Rattle.mig_algebra.specs.declared.atoms.Var.{Var}
use Rattle.mig_algebra.specs.Meaning.{Setting, Env, row_at, choices}
use Rattle.mig_algebra.specs.Tidied.{Slot, slots, numbers_of, vars_of}
use Rattle.mig_algebra.proofs.Lists.{each-both, each-middle, each-drop_middle}
use Rattle.mig_algebra.proofs.Slots.{Apart, slots-apart, vars-slots, at-place, at-slots}
use Rattle.mig_algebra.proofs.SlotOrders.{Reorders, apart-both, apart-drop, has-reordered}
use Rattle.mig_algebra.proofs.Reordered.{choices-reordered}

-- ---- put back

-- a choice whose rows stand by the numbers ns, in the order of the numbers ms
abbrev pub put_back : List ℕ → List ℕ → Env → Env
put_back ns ms d = map (λ v. row_at d (place ns v)) ms

put_back-made : (a : ℕ → Placed) (ns ms : List ℕ) → Each (λ v. has ns v ≡ true) ms → put_back ns ms (map a ns) ≡ map a ms
put_back-made a ns [] h = refl
put_back-made a ns (m ∷ ms) h = ap₂ (λ x xs. x ∷ xs) (at-place a no_row ns m ∙ ap (λ b. cond b (a m) no_row) h.0) (put_back-made a ns ms h.1)

-- the row of a number, the first being n
pub put_back-at : (ns : List ℕ) (n : ℕ) (vars : List Var) (d : Env) (v : ℕ) → n ≤ v → row_at (put_back ns (numbers_of (slots n vars)) d) (v - n) ≡ cond (has (numbers_of (slots n vars)) v) (row_at d (place ns v)) no_row
put_back-at ns n vars d v h = at-slots (λ m. row_at d (place ns m)) no_row n vars v h

each-has : (ms : List ℕ) → Each (λ v. has ms v ≡ true) ms
each-has [] = tt
each-has (m ∷ ms) = (ap (λ b. b || has ms m) (eq-eqb m m refl), later ms (each-has ms))
  where
    later : (ns : List ℕ) → Each (λ v. has ms v ≡ true) ns → Each (λ v. has (m ∷ ms) v ≡ true) ns
    later [] h = tt
    later (n ∷ ns) h = (ap (λ b. (m == n) || b) h.0 ∙ any (m == n), later ns h.1)
      where
        any : (b : Bool) → (b || true) ≡ true
        any true = refl
        any false = refl

-- the sum over the choices for variables in another order, put back
pub choices-put_back : (s : Setting) (f : Env → ℕ) (n : ℕ) (vars : List Var) (qs : List Slot) → Reorders (slots n vars) qs → total f (choices s vars) ≡ total (λ d. f (put_back (numbers_of qs) (numbers_of (slots n vars)) d)) (choices s (vars_of qs))
choices-put_back s f n vars qs r =
    ap (λ vs. total f (choices s vs)) (sym (vars-slots n vars))
    ∙ choices-reordered s f (λ d. f (put_back (numbers_of qs) (numbers_of (slots n vars)) d)) (slots n vars) qs (slots-apart n vars) r
    (λ a. ap f (sym (put_back-made a (numbers_of qs) (numbers_of (slots n vars)) (known (numbers_of (slots n vars)) (each-has (numbers_of (slots n vars)))))))
  where
    known : (ms : List ℕ) → Each (λ v. has (numbers_of (slots n vars)) v ≡ true) ms → Each (λ v. has (numbers_of qs) v ≡ true) ms
    known [] k = tt
    known (m ∷ ms) k = (has-reordered (slots n vars) qs r m ∙ k.0, known ms k.1)

-- ---- named slots last

-- whether a slot is none of the named ones
abbrev pub is_unnamed : List Slot → Slot → Bool
is_unnamed named p = not (has (numbers_of named) p.number)

-- the slots that are not named, in their order
abbrev pub unnamed : List Slot → List Slot → List Slot
unnamed named ps = filter (is_unnamed named) ps

-- where a number stands among slots
found : (k : ℕ) (qs : List Slot) → has (numbers_of qs) k ≡ true → (us : List Slot) × (q : Slot) × (vs : List Slot) × (qs ≡ us ++ (q ∷ vs)) × (q.number ≡ k)
found k [] h = cc
found k (q ∷ qs) h = go (cases_Bool (q.number == k)) (found k qs)
  where
    go : ((q.number == k) ≡ true) ⊎ ((q.number == k) ≡ false) → (has (numbers_of qs) k ≡ true → (us : List Slot) × (x : Slot) × (vs : List Slot) × (qs ≡ us ++ (x ∷ vs)) × (x.number ≡ k)) → (us : List Slot) × (x : Slot) × (vs : List Slot) × (q ∷ qs ≡ us ++ (x ∷ vs)) × (x.number ≡ k)
    go (inl t) ih = ([], q, qs, refl, eqb-true q.number k t)
    go (inr f) ih = let i = ih (ap (λ b. b || has (numbers_of qs) k) (sym f) ∙ h) in (q ∷ i.0, i.1, i.2, ap (λ l. q ∷ l) i.3, i.4)

-- a named slot that goes matters to no slot with another number
unnamed-drop : (us : List Slot) (p : Slot) (vs ps : List Slot) → Each (λ (q : Slot). q.number ≢ p.number) ps → unnamed (us ++ (p ∷ vs)) ps ≡ unnamed (us ++ vs) ps
unnamed-drop us p vs [] h = refl
unnamed-drop us p vs (q ∷ qs) h = ap₂ (λ b l. cond b (q ∷ l) l) (ap not (same us)) (unnamed-drop us p vs qs h.1)
  where
    same : (ws : List Slot) → has (numbers_of (ws ++ (p ∷ vs))) q.number ≡ has (numbers_of (ws ++ vs)) q.number
    same [] = ap (λ b. b || has (numbers_of vs) q.number) (ne_eqb p.number q.number (λ e. h.0 (sym e)))
    same (w ∷ ws) = ap (λ b. (w.number == q.number) || b) (same ws)

-- named slots, which are among the slots, may come last
pub reorders-named : (ps named : List Slot) → Apart ps → Each (λ q. In q ps) named → Apart named → Reorders ps (unnamed named ps ++ named)
reorders-named [] [] h i a = refl
reorders-named [] (q ∷ named) h i a = absurd i.0
reorders-named (p ∷ ps) named h i a = go (cases_Bool (has (numbers_of named) p.number)) (reorders-named ps)
  where
    elsewhere : (q : Slot) → q.number ≢ p.number → In q (p ∷ ps) → In q ps
    elsewhere q ne (inl e) = absurd (ne (ap (λ (x : Slot). x.number) e))
    elsewhere q ne (inr k) = k

    others : (qs : List Slot) → has (numbers_of qs) p.number ≡ false → Each (λ q. In q (p ∷ ps)) qs → Each (λ q. In q ps) qs
    others [] n k = tt
    others (q ∷ qs) n k = let o = or_parts (q.number == p.number) (has (numbers_of qs) p.number) n in (elsewhere q (eqb-false q.number p.number o.0) k.0, others qs o.1 k.1)

    differ : (qs : List Slot) → Each (λ (q : Slot). q.number ≢ p.number) qs → Each (λ q. In q (p ∷ ps)) qs → Each (λ q. In q ps) qs
    differ qs n k = each-both (λ (q : Slot). q.number ≢ p.number) (λ q. In q (p ∷ ps)) (λ q. In q ps) elsewhere qs n k

    itself : (q : Slot) → q.number ≡ p.number → In q (p ∷ ps) → q ≡ p
    itself q e (inl k) = k
    itself q e (inr k) = absurd (each-in (λ (x : Slot). x.number ≢ p.number) q ps h.0 k e)

    go : (has (numbers_of named) p.number ≡ true) ⊎ (has (numbers_of named) p.number ≡ false) → ((qs : List Slot) → Apart ps → Each (λ q. In q ps) qs → Apart qs → Reorders ps (unnamed qs ps ++ qs)) → Reorders (p ∷ ps) (unnamed named (p ∷ ps) ++ named)
    go (inr f) ih =
        ([], unnamed named ps ++ named, ap (λ b. cond (not b) (p ∷ unnamed named ps) (unnamed named ps) ++ named) f, ih named h.1 (others named f i) a)
    go (inl t) ih =
        let k = found p.number named t in
        let is : k.1 ≡ p = itself k.1 k.4 (each-middle (λ q. In q (p ∷ ps)) k.0 k.1 k.2 (subst (Each (λ q. In q (p ∷ ps))) k.3 i)) in
        let parts : named ≡ k.0 ++ (p ∷ k.2) = k.3 ∙ ap (λ q. k.0 ++ (q ∷ k.2)) is in
        let apart : Apart (k.0 ++ (p ∷ k.2)) = subst Apart parts a in
        let rest = ih (k.0 ++ k.2) h.1 (differ (k.0 ++ k.2) (apart-both k.0 p k.2 apart) (each-drop_middle (λ q. In q (p ∷ ps)) k.0 p k.2 (subst (Each (λ q. In q (p ∷ ps))) parts i))) (apart-drop k.0 p k.2 apart) in
        let same : unnamed named ps ≡ unnamed (k.0 ++ k.2) ps = ap (λ l. unnamed l ps) parts ∙ unnamed-drop k.0 p k.2 ps h.0 in
        (unnamed named ps ++ k.0, k.2, ap (λ b. cond (not b) (p ∷ unnamed named ps) (unnamed named ps) ++ named) t ∙ ap (λ l. unnamed named ps ++ l) parts ∙ sym (append_assoc (unnamed named ps) k.0 (p ∷ k.2)), subst (Reorders ps) (ap (λ l. l ++ (k.0 ++ k.2)) (sym same) ∙ sym (append_assoc (unnamed named ps) k.0 k.2)) rest)
