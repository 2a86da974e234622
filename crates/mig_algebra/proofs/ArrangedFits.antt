-- A literal whose variables stand in another order fits where the literal fits.
use Rattle.std.proofs.Common.{◌≡◌, ◌≢◌, ℕ, zero, suc, true, false, cond, not, ◌&&◌, ◌||◌, List, [], ◌∷◌, ◌++◌, map, length, Option, Some, None, refl, sym, ap, ap₂, ◌∙◌, arith, subst₂}
use Rattle.std.specs.Prelude.{◌==◌, slice_get, slice_index_or}
use Rattle.std.specs.List.{list_all}
use Rattle.std.proofs.lemmas.Bool.{eqb-true, ne_eqb, eq-eqb, true_from_ne_false}
use Rattle.std.proofs.lemmas.Bool.Decides.{Decides-eqb, same_from_decides}
use Rattle.std.proofs.lemmas.List.{map-append, get_or_past}
use Rattle.std.proofs.lemmas.List.Folds.{list_all-map}
use Rattle.mig_meaning.specs.Lists.{place, has, Each}
use Rattle.mig_algebra.specs.declared.atoms.Var.{Var}
use Rattle.mig_algebra.specs.declared.atoms.Atom.{Atom}
use Rattle.mig_algebra.specs.declared.atoms.Atom.TheVariants.{Int, Text, Param, Fresh, Col}
use Rattle.mig_algebra.specs.declared.literals.Lit.{Lit, Cmp, Other, Any', Row_of-Lit, end_of-Lit, more_of-Lit}
use Rattle.mig_algebra.specs.Rename.{renumbered}
use Rattle.mig_algebra.specs.Tidied.{Slot, slot_order, slots, slots_in_order, numbers_of, vars_of, lit_arranged, row_arranged}
use Rattle.mig_algebra.specs.Proper.{Sides, var_fits, atom_kind, column_kind, cmp_fits, same_side, other_fits, lit_fits, row_fits}
use Rattle.mig_algebra.proofs.Lists.{each-both}
use Rattle.mig_algebra.proofs.InOrder.{each-sorted, passes-sorted}
use Rattle.mig_algebra.proofs.Slots.{Apart, slots-apart, vars-slots, at-place, place-past}
use Rattle.mig_algebra.proofs.Arranged.{Numbers, Arranges, numbers-more, arranges-more}

-- ---- scopes

get-some : {X : Type 0} (xs : List X) (v : ℕ) → slice_get xs v ≡ slice_index_or (map Some xs) v None
get-some [] v = refl
get-some (x ∷ xs) zero = refl
get-some (x ∷ xs) (suc v) = get-some xs v

-- the scope sc' has the variables of sc in the order of their numbers `old`
abbrev pub Scopes : List ℕ → List Var → List Var → Type 0
Scopes old sc sc' = Arranges None old (map Some sc) (map Some sc')

-- the variable of a number
pub scope-at : (old : List ℕ) (sc sc' : List Var) → Scopes old sc sc' → (v : ℕ) → slice_get sc v ≡ slice_get sc' (place old v)
scope-at old sc sc' r v = get-some sc v ∙ r.at v ∙ sym (get-some sc' (place old v))

-- a number that is out of scope
pub scope-past : (old : List ℕ) (sc sc' : List Var) → Scopes old sc sc' → (v : ℕ) → has old v ≡ false → slice_get sc v ≡ None
scope-past old sc sc' r v h =
    let k = place-past old v h in
    get-some sc v ∙ r.at v ∙ get_or_past (map Some sc') (place old v) None (omega (arith, k, r.long'))

-- the variable of the slot of a number
abbrev look : List Slot → ℕ → Option Var
look [] k = None
look (p ∷ ps) k = cond (p.number == k) (Some p.var) (look ps k)

looked : (ps : List Slot) → Apart ps → Each (λ (q : Slot). look ps q.number ≡ Some q.var) ps
looked [] h = tt
looked (p ∷ ps) h = (
  ap (λ b. cond b (Some p.var) (look ps p.number)) (eq-eqb p.number p.number refl),
  each-both (λ (q : Slot). q.number ≢ p.number) (λ (q : Slot). look ps q.number ≡ Some q.var) (λ (q : Slot). look (p ∷ ps) q.number ≡ Some q.var)
      (λ q ne e. ap (λ b. cond b (Some p.var) (look ps q.number)) (ne_eqb p.number q.number (λ i. ne (sym i))) ∙ e) ps h.0 (looked ps h.1),
)

map-looked : (a : ℕ → Option Var) (ps : List Slot) → Each (λ (q : Slot). a q.number ≡ Some q.var) ps → map a (numbers_of ps) ≡ map Some (vars_of ps)
map-looked a [] h = refl
map-looked a (p ∷ ps) h = ap₂ (λ x xs. x ∷ xs) h.0 (map-looked a ps h.1)

-- further variables, and these in order
pub scopes-more : (old : List ℕ) (vars sc sc' : List Var) → Numbers old → Scopes old sc sc' → Scopes (old ++ numbers_of (slots_in_order (length old) vars)) (sc ++ vars) (sc' ++ vars_of (slots_in_order (length old) vars))
scopes-more old vars sc sc' h r =
    subst₂ (λ x y. Arranges None (old ++ numbers_of (slots_in_order (length old) vars)) x y)
    (ap (λ l. map Some sc ++ l) (map-looked a ps all ∙ ap (map Some) (vars-slots (length old) vars)) ∙ sym (map-append Some sc vars))
    (ap (λ l. map Some sc' ++ l) (map-looked a (slots_in_order (length old) vars) (each-sorted slot_order (λ (q : Slot). a q.number ≡ Some q.var) ps all)) ∙ sym (map-append Some sc' (vars_of (slots_in_order (length old) vars))))
    (arranges-more None old vars a (map Some sc) (map Some sc') h r)
  where
    ps : List Slot
    ps = slots (length old) vars

    a : ℕ → Option Var
    a = look ps

    all : Each (λ (q : Slot). a q.number ≡ Some q.var) ps
    all = looked ps (slots-apart (length old) vars)

-- ---- literals

-- places tell numbers apart
pub place-same : (old : List ℕ) (a b : ℕ) → has old a ≡ true → has old b ≡ true → (a == b) ≡ (place old a == place old b)
place-same old a b ha hb =
    same_from_decides {P = a ≡ b} (a == b) (place old a == place old b) (Decides-eqb a b)
    (λ h. sym (value a ha) ∙ ap (λ n. slice_index_or (map (λ (m : ℕ). m) old) n 0) (eqb-true (place old a) (place old b) h) ∙ value b hb, λ e. eq-eqb (place old a) (place old b) (ap (place old) e))
  where
    value : (v : ℕ) → has old v ≡ true → slice_index_or (map (λ (m : ℕ). m) old) (place old v) 0 ≡ v
    value v h = at-place (λ (m : ℕ). m) 0 old v ∙ ap (λ t. cond t v 0) h

-- an atom's kind
pub renumbered-kind : (p : Sides) (old : List ℕ) (sc sc' : List Var) → Scopes old sc sc' → (x : Atom) → atom_kind p sc x ≡ atom_kind p sc' (renumbered (place old) x)
renumbered-kind p old sc sc' r (Int i) = refl
renumbered-kind p old sc sc' r (Text t) = refl
renumbered-kind p old sc sc' r (Param n) = refl
renumbered-kind p old sc sc' r (Fresh n) = refl
renumbered-kind p old sc sc' r (Col v c) = ap (λ o. column_kind p o c) (scope-at old sc sc' r v)

-- the kinds of a head
pub renumbered-kinds : (p : Sides) (old : List ℕ) (sc sc' : List Var) → Scopes old sc sc' → (xs : List Atom) → map (atom_kind p sc) xs ≡ map (atom_kind p sc') (map (renumbered (place old)) xs)
renumbered-kinds p old sc sc' r [] = refl
renumbered-kinds p old sc sc' r (x ∷ xs) = ap₂ (λ y ys. y ∷ ys) (renumbered-kind p old sc sc' r x) (renumbered-kinds p old sc sc' r xs)

-- variables in order
pub vars-fit : (p : Sides) (n : ℕ) (vars : List Var) → list_all (var_fits p) vars ≡ list_all (var_fits p) (vars_of (slots_in_order n vars))
vars-fit p n vars =
    ap (list_all (var_fits p)) (sym (vars-slots n vars)) ∙ list_all-map (var_fits p) (λ (q : Slot). q.var) (slots n vars)
    ∙ sym (passes-sorted slot_order (λ (q : Slot). var_fits p q.var) (slots n vars)) ∙ sym (list_all-map (var_fits p) (λ (q : Slot). q.var) (slots_in_order n vars))

other-fits : (old : List ℕ) (a b : ℕ) (x y : Option Var) → (has old a ≡ false → x ≡ None) → (has old b ≡ false → y ≡ None) → other_fits a b x y ≡ other_fits (place old a) (place old b) x y
other-fits old a b None y f g = refl
other-fits old a b (Some v) None f g = refl
other-fits old a b (Some v) (Some w) f g =
    ap (λ t. same_side v.side w.side && (v.table == w.table && (not t || v.stage == 0)))
    (place-same old a b (true_from_ne_false (has old a) (λ h. some v (f h))) (true_from_ne_false (has old b) (λ h. some w (g h))))
  where
    some : (u : Var) → Some u ≡ None → ⊥
    some u e = cc

module _ (p : Sides) where
  mutual
    -- whether a literal fits
    pub arranged-fits : (old : List ℕ) (sc sc' : List Var) → Numbers old → Scopes old sc sc' → (l : Lit) → lit_fits p sc l ≡ lit_fits p sc' (lit_arranged old l)
    arranged-fits old sc sc' h r (Cmp op a b) = ap₂ (cmp_fits op) (renumbered-kind p old sc sc' r a) (renumbered-kind p old sc sc' r b)
    arranged-fits old sc sc' h r (Other a b) =
        other-fits old a b (slice_get sc a) (slice_get sc b) (scope-past old sc sc' r a) (scope-past old sc sc' r b)
        ∙ ap₂ (other_fits (place old a) (place old b)) (scope-at old sc sc' r a) (scope-at old sc sc' r b)
    arranged-fits old sc sc' h r (Any' held vars n lits) =
        ap₂ (λ x y. x && y) (vars-fit p (length old) vars)
        (arranged-row-fits (old ++ numbers_of (slots_in_order (length old) vars)) (sc ++ vars) (sc' ++ vars_of (slots_in_order (length old) vars)) (numbers-more old vars h) (scopes-more old vars sc sc' h r) lits)

    pub arranged-row-fits : (old : List ℕ) (sc sc' : List Var) → Numbers old → Scopes old sc sc' → {m : _} (lits : Row_of-Lit m) → row_fits p sc lits ≡ row_fits p sc' (row_arranged old lits)
    arranged-row-fits old sc sc' h r end_of-Lit = refl
    arranged-row-fits old sc sc' h r (more_of-Lit l rest) = ap₂ (λ x y. x && y) (arranged-fits old sc sc' h r l) (arranged-row-fits old sc sc' h r rest)
