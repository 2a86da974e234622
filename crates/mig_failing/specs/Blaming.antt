-- The functions that a list of calls names.
use Rattle.std.specs.Prelude.{◌≡◌, ℕ, nat_lt, List, ◌∷◌, ◌++◌, filter}
use Rattle.mig_listing.specs.Listing.{IsIn}
use Rattle.mig_meaning.specs.declared.calling.Invocation.{Invocation}

-- a call of these is of function f
pub record IsBlamed (calls : List Invocation) (f : ℕ) : Type 0 where
  pub by : Invocation
  pub stands : IsIn by calls
  pub is : f ≡ by.function

-- numbers and one more, behind the lesser and before the greater
abbrev pub with_number : List ℕ → ℕ → List ℕ
with_number ns n = filter (λ m. nat_lt m n) ns ++ (n ∷ filter (λ m. nat_lt n m) ns)
