-- The picks at some holes, hole by hole.
use Rattle.std.proofs.Common.{◌≡◌, ℕ, ◌+◌, ◌<◌, ◌≤◌, Bool, cond, List, [], ◌∷◌, ◌++◌, take, length, get_or, refl, ap, subst, inl, inr, arith, suc, zero}
use Rattle.std.specs.List.{All, AllByRecursion}
use Rattle.std.proofs.lemmas.Bool.{cases_Bool}
use Rattle.std.proofs.lemmas.List.Elements.{All-from_recursion}
use Rattle.mig_sketch.specs.declared.plans.Hole.{Hole}
use Rattle.mig_sketch.specs.Choices.{IsChoice}
use Rattle.mig_sketch.specs.Choices.{sizes_of, total}
use Rattle.mig_complete.specs.declared.blocks.Pick.{Pick}
use Rattle.mig_complete.specs.Covering.{IsInSizes}
use Rattle.mig_search.specs.Blocking.{picks_at}

-- the pick at one hole
abbrev pub pick_at : ℕ → Bool → ℕ → List Pick
pick_at n counts a = cond counts (record { hole = n; option = a } ∷ []) []

-- one hole more
pub picks_more : (n : ℕ) (hs : List Hole) (these : ℕ → Bool) (ps : List ℕ) (i : ℕ) (d : Hole) → i < length hs → i < length ps → picks_at n (take (suc i) hs) these (take (suc i) ps) ≡ picks_at n (take i hs) these (take i ps) ++ pick_at (n + i) (these (get_or hs i d).function) (get_or ps i 0)
picks_more n [] these ps i d lt lp = absurd (omega (arith, lt))
picks_more n (h ∷ hs) these [] i d lt lp = absurd (omega (arith, lp))
picks_more n (h ∷ hs) these (a ∷ ps) zero d lt lp = ap (λ m. pick_at m (these h.function) a) (omega arith)
picks_more n (h ∷ hs) these (a ∷ ps) (suc i) d lt lp =
    let e : n + 1 + i ≡ n + suc i = omega arith in
    let more = subst (λ m. picks_at (n + 1) (take (suc i) hs) these (take (suc i) ps) ≡ picks_at (n + 1) (take i hs) these (take i ps) ++ pick_at m (these (get_or hs i d).function) (get_or ps i 0)) e (picks_more (n + 1) hs these ps i d (omega (arith, lt)) (omega (arith, lp))) in
    elim (cases_Bool (these h.function)) [
      | inl t ↦ rw t (ap (λ x. record { hole = n; option = a } ∷ x) more)
      | inr f ↦ rw f more
    ]

-- each pick is of an option that its hole has
picks_small : (whole : List ℕ) (n : ℕ) (hs : List Hole) (these : ℕ → Bool) (ps : List ℕ) → ((k : ℕ) → get_or whole (n + k) 0 ≡ get_or (sizes_of hs) k 0) → IsChoice (sizes_of hs) ps → AllByRecursion (IsInSizes whole) (picks_at n hs these ps)
picks_small whole n [] these ps at c = tt
picks_small whole n (h ∷ hs) these [] at c = absurd c
picks_small whole n (h ∷ hs) these (a ∷ ps) at c =
    let more = picks_small whole (n + 1) hs these ps (λ k. subst (λ m. get_or whole m 0 ≡ get_or (sizes_of hs) k 0) (omega arith) (at (suc k))) c.1 in
    let size : get_or whole n 0 ≡ length h.options = subst (λ m. get_or whole m 0 ≡ length h.options) (omega arith) (at 0) in
    elim (cases_Bool (these h.function)) [
      | inl t ↦ rw t (omega (arith, size, c.0), more)
      | inr f ↦ rw f more
    ]

pub picks_in_sizes : (hs : List Hole) (these : ℕ → Bool) (ps : List ℕ) → IsChoice (sizes_of hs) ps → All (IsInSizes (sizes_of hs)) (picks_at 0 hs these ps)
picks_in_sizes hs these ps c = All-from_recursion (IsInSizes (sizes_of hs)) (picks_at 0 hs these ps) (picks_small (sizes_of hs) 0 hs these ps (λ k. ap (λ m. get_or (sizes_of hs) m 0) (omega arith)) c)

-- there are as many picks as holes
pub sizes_length : (hs : List Hole) (ps : List ℕ) → IsChoice (sizes_of hs) ps → length ps ≡ length hs
sizes_length [] [] c = refl
sizes_length [] (p ∷ ps) c = absurd c
sizes_length (h ∷ hs) [] c = absurd c
sizes_length (h ∷ hs) (p ∷ ps) c = let e = sizes_length hs ps c.1 in omega (arith, e)

-- and no fewer options than holes
pub length_total : (hs : List Hole) (ps : List ℕ) → IsChoice (sizes_of hs) ps → length hs ≤ total (sizes_of hs)
length_total [] ps c = omega arith
length_total (h ∷ hs) [] c = absurd c
length_total (h ∷ hs) (p ∷ ps) c = let le = length_total hs ps c.1 in omega (arith, le, c.0)
