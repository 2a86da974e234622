-- Lists of numbers chosen one after the other, each of those that may follow the ones before.
use Rattle.std.specs.Prelude.{◌≡◌, ℕ, zero, suc, ◌<◌, Bool, true, List, [], ◌∷◌, ◌++◌, map, length, filter}
use Rattle.std.specs.List.{flat_map}
use Rattle.mig_listing.specs.Listing.{IsIn, Rises}
use Rattle.mig_listing.specs.Orders.{Before}
use Rattle.mig_listing.specs.Choices.{numbers}

-- each number of a list before each list of numbers for it
abbrev pub each : List ℕ → (ℕ → List (List ℕ)) → List (List ℕ)
each xs f = flat_map (λ x. map (λ ys. x ∷ ys) (f x)) xs

-- all lists of so many numbers below n, of which each front, after those before it, may go on
abbrev pub chosen : (goes_on : List ℕ → Bool) → (n count : ℕ) → (before : List ℕ) → List (List ℕ)
chosen goes_on n zero before = [] ∷ []
chosen goes_on n (suc count) before = each (filter (λ x. goes_on (before ++ x ∷ [])) (numbers n)) (λ x. chosen goes_on n count (before ++ x ∷ []))

-- each front of these numbers, after those before them, may go on
abbrev pub MayGoOn : (goes_on : List ℕ → Bool) → (n : ℕ) → (before args : List ℕ) → Type 0
MayGoOn goes_on n before [] = Unit {0}
MayGoOn goes_on n before (x ∷ xs) = (x < n) × (goes_on (before ++ x ∷ []) ≡ true) × MayGoOn goes_on n (before ++ x ∷ []) xs

-- chosen lists rise, and each list of which all fronts may go on is one
pub record ChosenLaw : Type 0 where
  pub rises : (goes_on : List ℕ → Bool) (n count : ℕ) (before : List ℕ) → Rises Before (chosen goes_on n count before)
  pub has : (goes_on : List ℕ → Bool) (n count : ℕ) (before args : List ℕ) → length args ≡ count → MayGoOn goes_on n before args → IsIn args (chosen goes_on n count before)
