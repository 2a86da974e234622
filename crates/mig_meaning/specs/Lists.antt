-- Sums and choices over lists.
use Rattle.std.specs.Prelude.{ℕ, ◌+◌, ◌==◌, Bool, true, false, cond, List, [], ◌∷◌, map, ◌≡◌, ◌⊎◌}
use Rattle.std.specs.List.{list_any, flat_map}

-- the sum of f over a list
abbrev pub total : {X : Type 0} → (X → ℕ) → List X → ℕ
total f [] = 0
total f (x ∷ xs) = f x + total f xs

-- 1 where a test is true
abbrev pub bit : Bool → ℕ
bit true = 1
bit false = 0

-- one element of each list, the first list slowest
abbrev pub product : {X : Type 0} → List (List X) → List (List X)
product [] = [] ∷ []
product (xs ∷ more) = flat_map (λ x. map (λ c. x ∷ c) (product more)) xs

-- the first place of a number, or the length where it is not there
abbrev pub place : List ℕ → ℕ → ℕ
place [] t = 0
place (u ∷ us) t = cond (u == t) 0 (place us t + 1)

-- whether a list has a number
abbrev pub has : List ℕ → ℕ → Bool
has ks k = list_any (λ l. l == k) ks

-- no two are equal
abbrev pub AllDifferent : List ℕ → Type 0
AllDifferent [] = Unit {0}
AllDifferent (k ∷ ks) = (has ks k ≡ false) × AllDifferent ks

-- one of a list
abbrev pub In : {X : Type 0} → X → List X → Type 0
In x [] = ⊥
In x (y ∷ ys) = (x ≡ y) ⊎ In x ys

-- what holds of each element
abbrev pub Each : {X : Type 0} → (X → Type 0) → List X → Type 0
Each P [] = Unit {0}
Each P (x ∷ xs) = P x × Each P xs
