-- Invariants that are kept only where they stand first, one more at a time.
use Rattle.std.proofs.Common.{◌≡◌, Bool, true, false, List, [], ◌∷◌, ◌++◌, refl, ap, sym, ◌∙◌, cond, append-nil}
use Rattle.std.specs.Prelude.{not, ◌||◌, filter}
use Rattle.std.specs.List.{list_any}
use Rattle.std.proofs.lemmas.List.Elements.{filter-append}
use Rattle.mig_meaning.specs.declared.relating.Invariant.{Invariant}
use Rattle.mig_invariant.specs.Candidates.{differs, once}
use Rattle.mig_invariant.specs.Same.{same_invariant}
use Rattle.mig_invariant.proofs.Alike.{invariant_same}

-- whether an invariant stands in a list
abbrev pub stands : List Invariant → Invariant → Bool
stands list x = list_any (λ k. same_invariant k x) list

-- where two differ, the one stands where the other is left out as it did before
stands_without : (y x : Invariant) → same_invariant y x ≡ false → (list : List Invariant) → stands (filter (differs y) list) x ≡ stands list x
stands_without y x e [] = refl
stands_without y x e (k ∷ list) =
    (elim (same_invariant y k) as (λ b. same_invariant y k ≡ b → stands (cond (not b) (k ∷ filter (differs y) list) (filter (differs y) list)) x ≡ (same_invariant k x || stands list x)) [
      | true ↦ λ is. let one : same_invariant k x ≡ false = ap (λ z. same_invariant z x) (sym (invariant_same y k is)) ∙ e in rw one (stands_without y x e list)
      | false ↦ λ is. ap (λ b. same_invariant k x || b) (stands_without y x e list)
    ]) refl

-- what stands in a list stands there where each is kept only once
pub stands_once : (x : Invariant) (list : List Invariant) → stands (once list) x ≡ stands list x
stands_once x [] = refl
stands_once x (y ∷ list) =
    (elim (same_invariant y x) as (λ b. same_invariant y x ≡ b → (b || stands (filter (differs y) (once list)) x) ≡ (b || stands list x)) [
      | true ↦ λ is. refl
      | false ↦ λ is. stands_without y x is (once list) ∙ stands_once x list
    ]) refl

-- the last one goes where it is the first one, or stands in between
last : (y x : Invariant) (b : Bool) → filter (differs y) (cond b [] (x ∷ [])) ≡ cond (same_invariant y x || b) [] (x ∷ [])
last y x true = (elim (same_invariant y x) as (λ b. [] ≡ cond (b || true) [] (x ∷ [])) [ true ↦ refl | false ↦ refl ])
last y x false = (elim (same_invariant y x) as (λ b. cond (not b) (x ∷ []) [] ≡ cond (b || false) [] (x ∷ [])) [ true ↦ refl | false ↦ refl ])

-- one more is kept unless it stands there
more : (list : List Invariant) (x : Invariant) → once (list ++ x ∷ []) ≡ once list ++ cond (stands list x) [] (x ∷ [])
more [] x = refl
more (y ∷ list) x =
    ap (λ kept. y ∷ filter (differs y) kept) (more list x)
    ∙ ap (λ kept. y ∷ kept) (filter-append (differs y) (once list) (cond (stands list x) [] (x ∷ [])))
    ∙ ap (λ kept. y ∷ (filter (differs y) (once list) ++ kept)) (last y x (stands list x))

-- nothing is put behind, or one
either : (list : List Invariant) (x : Invariant) (b : Bool) → list ++ cond b [] (x ∷ []) ≡ cond b list (list ++ x ∷ [])
either list x true = append-nil list
either list x false = refl

-- the same by what is kept so far
pub once_more : (list : List Invariant) (x : Invariant) → once (list ++ x ∷ []) ≡ cond (stands (once list) x) (once list) (once list ++ x ∷ [])
once_more list x =
    more list x
    ∙ ap (λ b. once list ++ cond b [] (x ∷ [])) (sym (stands_once x list))
    ∙ either (once list) x (stands (once list) x)
