-- Whether some item of a list that is made of other lists passes a test.
use Rattle.std.proofs.Common.{◌≡◌, ℕ, ◌+◌, Bool, ◌||◌, List, [], ◌∷◌, ◌++◌, length, refl, ap, ◌∙◌}
use Rattle.std.specs.List.{list_any, flat_map, range_with_len}
use Rattle.std.proofs.lemmas.List.Folds.{list_any-append}
use Rattle.mig_base.specs.Lists.{numbered}

-- some item of all lists passes where some list has one
pub any-flat_map : {A B : Type 0} (q : B → Bool) (f : A → List B) (xs : List A) → list_any q (flat_map f xs) ≡ list_any (λ x. list_any q (f x)) xs
any-flat_map q f [] = refl
any-flat_map q f (x ∷ xs) = list_any-append q (f x) (flat_map f xs) ∙ ap (λ b. list_any q (f x) || b) (any-flat_map q f xs)

-- of numbered items that are made of their numbers alone
pub any-numbered : {A B : Type 0} (q : B → Bool) (f : ℕ → B) (n : ℕ) (xs : List A) → list_any (λ k. q (f k)) (range_with_len n (length xs)) ≡ list_any q (numbered (λ k (x : A). f k) n xs)
any-numbered q f n [] = refl
any-numbered {A} q f n (x ∷ xs) = ap (λ b. q (f n) || b) (any-numbered {A = A} q f (n + 1) xs)

-- items that pass tests alike
pub any-same : {A : Type 0} (p q : A → Bool) (xs : List A) → ((x : A) → p x ≡ q x) → list_any p xs ≡ list_any q xs
any-same p q [] same = refl
any-same p q (x ∷ xs) same = ap (λ b. b || list_any p xs) (same x) ∙ ap (λ b. q x || b) (any-same p q xs same)
