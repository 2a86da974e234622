-- A list that is said by what it holds and by its order.
use Rattle.std.specs.Prelude.{◌≡◌, ◌⊎◌, List, [], ◌∷◌}

-- x stands in the list
abbrev pub IsIn : {A : Type 0} → A → List A → Type 0
IsIn x [] = ⊥
IsIn x (y ∷ ys) = (x ≡ y) ⊎ IsIn x ys

-- each item stands before all that follow it
abbrev pub Rises : {A : Type 0} → (A → A → Type 0) → List A → Type 0
Rises R [] = Unit {0}
Rises {A} R (x ∷ xs) = ((y : A) → IsIn y xs → R x y) × Rises R xs

-- the list of all that P holds of, in the order R
pub record IsListOf {A : Type 0} (P : A → Type 0) (R : A → A → Type 0) (xs : List A) : Type 0 where
  pub rises : Rises R xs
  pub holds : (x : A) → IsIn x xs → P x
  pub has : (x : A) → P x → IsIn x xs
