-- Chosen lists that begin with one of these numbers.
use Rattle.std.specs.Prelude.{ℕ, Bool, List, [], ◌∷◌, ◌++◌, filter}
use Rattle.mig_listing.specs.Chosen.{each, chosen}

-- those of one number more that begin with one of these
abbrev pub chosen_from : (goes_on : List ℕ → Bool) → (n count : ℕ) → (before xs : List ℕ) → List (List ℕ)
chosen_from goes_on n count before xs = each (filter (λ x. goes_on (before ++ x ∷ [])) xs) (λ x. chosen goes_on n count (before ++ x ∷ []))
