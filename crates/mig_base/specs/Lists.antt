-- Items that stand twice, and items by their numbers.
use Rattle.std.specs.Prelude.{ℕ, ◌+◌, Bool, false, List, [], ◌∷◌, take, slice_get}
use Rattle.std.specs.List.{list_any}
use Rattle.std.specs.Option.{option_map_or}

-- whether the item of number k has an equal one before it; false past the end
abbrev pub again : {A : Type 0} → (A → A → Bool) → List A → ℕ → Bool
again same xs k = option_map_or (λ x. list_any (λ y. same y x) (take k xs)) (slice_get xs k) false

-- each item by f, which is given the item's number, from n on
abbrev pub numbered : {A B : Type 0} → (ℕ → A → B) → ℕ → List A → List B
numbered f n [] = []
numbered f n (x ∷ xs) = f n x ∷ numbered f (n + 1) xs
