-- How what names hold changes.
use Rattle.std.specs.Prelude.{◌≡◌, ◌≢◌, ℕ, List, Option, Some}

-- the name holds these bytes now, and every other name what it held before
pub record HoldsToo (old new : List ℕ → Option (List ℕ)) (name bytes : List ℕ) : Type 0 where
  pub holds : new name ≡ Some bytes
  pub others : (other : List ℕ) → other ≢ name → new other ≡ old other
