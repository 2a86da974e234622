-- Lists of lists of numbers, made number by number, rise where their parts do; chosen lists rise, and each list of which all fronts may go on is among them.
use Rattle.std.proofs.Common.{◌≡◌, ℕ, zero, suc, Bool, List, [], ◌∷◌, ◌++◌, map, length, refl, sym, subst, inl, inr, arith}
use Rattle.std.specs.Prelude.{filter}
use Rattle.mig_listing.specs.Chosen.{each, chosen, MayGoOn}
use Rattle.mig_listing.specs.Choices.{numbers}
use Rattle.mig_listing.specs.Listing.{IsIn, Rises}
use Rattle.mig_listing.specs.Orders.{Less, Before}
use Rattle.mig_listing.proofs.Choices.{in_numbers, numbers_rise}
use Rattle.mig_listing.proofs.Members.{in_map, from_map, from_flat_map, from_filter}
use Rattle.mig_listing.proofs.Rising.{rises_map, rises_flat_map, rises_filter}

-- a list alone
pub one-rises : {A : Type 0} (R : A → A → Type 0) (x : A) → Rises R (x ∷ [])
one-rises R x = ((λ y i. absurd i), tt)

pub each-rises : (xs : List ℕ) (f : ℕ → List (List ℕ)) → Rises Less xs → ((x : ℕ) → Rises Before (f x)) → Rises Before (each xs f)
each-rises xs f r h =
    rises_flat_map {R = Less} {S = Before} (λ x. map (λ ys. x ∷ ys) (f x)) xs r
    (λ x i. rises_map Before Before (λ ys. x ∷ ys) (f x) (h x) (λ a b k. inr (refl, k)))
    (λ a b u v i j k p q.
    let s = in_map (λ ys. a ∷ ys) (f a) u p in
    let t = in_map (λ ys. b ∷ ys) (f b) v q in
    subst (λ w. Before w v) (sym s.2) (subst (λ w. Before (a ∷ s.0) w) (sym t.2) (inl k)))

pub each-has : (xs : List ℕ) (f : ℕ → List (List ℕ)) (x : ℕ) (ys : List ℕ) → IsIn x xs → IsIn ys (f x) → IsIn (x ∷ ys) (each xs f)
each-has xs f x ys i j = from_flat_map (λ x. map (λ ys. x ∷ ys) (f x)) xs x (x ∷ ys) i (from_map (λ ys. x ∷ ys) (f x) ys j)

module _ (goes_on : List ℕ → Bool) (n : ℕ) where
  pub chosen-rises : (count : ℕ) (before : List ℕ) → Rises Before (chosen goes_on n count before)
  chosen-rises zero before = one-rises Before []
  chosen-rises (suc count) before =
      each-rises (filter (λ x. goes_on (before ++ x ∷ [])) (numbers n)) (λ x. chosen goes_on n count (before ++ x ∷ []))
      (rises_filter Less (λ x. goes_on (before ++ x ∷ [])) (numbers n) (numbers_rise n))
      (λ x. chosen-rises count (before ++ x ∷ []))

  pub chosen-has : (count : ℕ) (before args : List ℕ) → length args ≡ count → MayGoOn goes_on n before args → IsIn args (chosen goes_on n count before)
  chosen-has zero before [] e h = inl refl
  chosen-has zero before (x ∷ xs) e h = absurd (omega arith)
  chosen-has (suc count) before [] e h = absurd (omega arith)
  chosen-has (suc count) before (x ∷ xs) e h =
      each-has (filter (λ x. goes_on (before ++ x ∷ [])) (numbers n)) (λ x. chosen goes_on n count (before ++ x ∷ [])) x xs
      (from_filter (λ x. goes_on (before ++ x ∷ [])) (numbers n) x (in_numbers n x h.0) h.1)
      (chosen-has count (before ++ x ∷ []) xs (omega (arith, e)) h.2)
