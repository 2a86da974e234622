-- Sets of numbers, each as the list of its members by size.
use Rattle.std.specs.Prelude.{◌≡◌, ℕ, Bool, zero, suc, nat_lt, List, [], ◌∷◌, ◌++◌, length, map, filter}
use Rattle.std.specs.List.{list_all, flat_map}
use Rattle.mig_listing.specs.Listing.{IsIn, Rises}
use Rattle.mig_listing.specs.Orders.{Less}

-- a set of n numbers of the pool
pub record IsChoice (n : ℕ) (pool c : List ℕ) : Type 0 where
  pub rising : Rises Less c
  pub sized : length c ≡ n
  pub from : (x : ℕ) → IsIn x c → IsIn x pool

-- the numbers below n
abbrev pub numbers : ℕ → List ℕ
numbers zero = []
numbers (suc n) = numbers n ++ n ∷ []

-- whether all of the choice are below x
abbrev pub is_above : List ℕ → ℕ → Bool
is_above choice x = list_all (λ y. nat_lt y x) choice

-- the choice with each one of the pool that is above it
abbrev pub longer : List ℕ → List ℕ → List (List ℕ)
longer pool choice = map (λ x. choice ++ x ∷ []) (filter (is_above choice) pool)

-- all choices of n of the pool, of which `choices_listed` says that they are the list of them
unfoldable pub choices : ℕ → List ℕ → List (List ℕ)
choices zero pool = [] ∷ []
choices (suc n) pool = flat_map (longer pool) (choices n pool)
