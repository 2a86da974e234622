-- The first items of a list that is said by what it holds and by its order, and the item after them.
use Rattle.std.specs.Prelude.{◌⊎◌, List}
use Rattle.mig_listing.specs.Listing.{IsIn, Rises}

-- the first items of the list of all that P holds of: each other one that P holds of stands after all of them
pub record IsFront {A : Type 0} (P : A → Type 0) (R : A → A → Type 0) (xs : List A) : Type 0 where
  pub rises : Rises R xs
  pub holds : (x : A) → IsIn x xs → P x
  pub first : (o : A) → P o → IsIn o xs ⊎ ((x : A) → IsIn x xs → R x o)

-- P holds of m, which is none of xs, and no other that P holds of and that is none of xs stands before it
pub record IsNext {A : Type 0} (P : A → Type 0) (R : A → A → Type 0) (xs : List A) (m : A) : Type 0 where
  pub holds : P m
  pub new : IsIn m xs → ⊥
  pub least : (o : A) → P o → (IsIn o xs → ⊥) → R o m → ⊥
