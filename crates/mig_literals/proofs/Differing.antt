-- Where two lists differ, and later terms, one after the other.
use Rattle.std.proofs.Common.{◌≡◌, ℕ, zero, suc, ◌+◌, ◌<◌, Bool, true, false, cond, not, List, [], ◌∷◌, ◌++◌, map, drop, length, get_or, refl, sym, ap, ap₂, ◌∙◌, arith, add-one, drop-cons, append_assoc}
use Rattle.std.specs.Prelude.{slice_get}
use Rattle.std.specs.Ordering.{is_eq}
use Rattle.std.proofs.lemmas.List.{drop-drop}
use Rattle.mig_algebra.specs.declared.literals.Lit.{Lit}
use Rattle.mig_algebra.specs.declared.terms.Term.{Term}
use Rattle.mig_algebra.specs.Orders.{lit_order}
use Rattle.mig_literals.specs.Rejoined.{other_than, differs_at, first_difference, joints, later_joints}

-- a list from a number on
cut : {X : Type 0} (xs : List X) (i : ℕ) (x : X) → i < length xs → x ≡ get_or xs i x → drop i xs ≡ x ∷ drop (i + 1) xs
cut xs i x h is = (rw add-one (drop-cons xs i x h)) ∙ ap (λ y. y ∷ drop (i + 1) xs) (sym is)

get-drop : (ms : List Lit) (i : ℕ) → slice_get ms i ≡ slice_get (drop i ms) 0
get-drop [] zero = refl
get-drop [] (suc i) = refl
get-drop (m ∷ ms) zero = refl
get-drop (m ∷ ms) (suc i) = get-drop ms i

not-back : (b c : Bool) → not b ≡ c → b ≡ not c
not-back true c h = ap not h
not-back false c h = ap not h

-- a literal that does not differ is passed
pub difference-on : (ls ms : List Lit) (i : ℕ) (l : Lit) → i < length ls → l ≡ get_or ls i l → differs_at l ms i ≡ false → first_difference i (drop i ls) (drop i ms) ≡ first_difference (i + 1) (drop (i + 1) ls) (drop (i + 1) ms)
difference-on ls ms i l h is d =
    ap (λ (xs : List Lit). first_difference i xs (drop i ms)) (cut ls i l h is)
    ∙ go (drop i ms) (ap (other_than l) (sym (get-drop ms i)) ∙ d)
    ∙ ap (first_difference (i + 1) (drop (i + 1) ls)) (drop-drop 1 i ms)
  where
    nothing : (xs : List Lit) → first_difference (i + 1) xs [] ≡ []
    nothing [] = refl
    nothing (x ∷ xs) = refl

    go : (ys : List Lit) → other_than l (slice_get ys 0) ≡ false → first_difference i (l ∷ drop (i + 1) ls) ys ≡ first_difference (i + 1) (drop (i + 1) ls) (drop 1 ys)
    go [] k = sym (nothing (drop (i + 1) ls))
    go (y ∷ ys) k = ap (λ (b : Bool). cond b (first_difference (i + 1) (drop (i + 1) ls) ys) (i ∷ [])) (not-back (is_eq (lit_order l y)) false k)

-- one that differs is the first
pub difference-here : (ls ms : List Lit) (i : ℕ) (l : Lit) → i < length ls → l ≡ get_or ls i l → differs_at l ms i ≡ true → first_difference i (drop i ls) (drop i ms) ≡ i ∷ []
difference-here ls ms i l h is d =
    ap (λ (xs : List Lit). first_difference i xs (drop i ms)) (cut ls i l h is)
    ∙ go (drop i ms) (ap (other_than l) (sym (get-drop ms i)) ∙ d)
  where
    go : (ys : List Lit) → other_than l (slice_get ys 0) ≡ true → first_difference i (l ∷ drop (i + 1) ls) ys ≡ i ∷ []
    go [] k = cc
    go (y ∷ ys) k = ap (λ (b : Bool). cond b (first_difference (i + 1) (drop (i + 1) ls) ys) (i ∷ [])) (not-back (is_eq (lit_order l y)) true k)

-- one later term more
pub later-step : (t : Term) (m k : ℕ) (vs : List Term) (v : Term) (u : ℕ) (done new : List (List ℕ)) → k < length vs → v ≡ get_or vs k v → u ≡ m + k → later_joints t m vs ≡ done ++ later_joints t (m + k) (drop k vs) → new ≡ done ++ map (λ l. u ∷ (l ∷ [])) (joints t v) → later_joints t m vs ≡ new ++ later_joints t (m + (k + 1)) (drop (k + 1) vs)
later-step t m k vs v u done new h is e inv made =
    let z : (m + k) + 1 ≡ m + (k + 1) = omega arith in
    inv ∙ ap (λ (r : List Term). done ++ later_joints t (m + k) r) (cut vs k v h is)
    ∙ sym (append_assoc done (map (λ l. (m + k) ∷ (l ∷ [])) (joints t v)) (later_joints t ((m + k) + 1) (drop (k + 1) vs)))
    ∙ ap₂ (λ (d : List (List ℕ)) (i : ℕ). d ++ later_joints t i (drop (k + 1) vs)) (ap (λ (i : ℕ). done ++ map (λ l. i ∷ (l ∷ [])) (joints t v)) (sym e) ∙ sym made) z
