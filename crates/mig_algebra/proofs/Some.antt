-- Whether some element passes a test: the sign of a sum.
use Rattle.std.proofs.Common.{◌≡◌, ℕ, zero, suc, ◌+◌, Bool, true, false, ◌||◌, List, [], ◌∷◌, refl, sym, ap, ◌∙◌, arith}
use Rattle.std.specs.List.{list_any}
use Rattle.mig_meaning.specs.Lists.{total, bit, Each}
use Rattle.mig_meaning.proofs.Within.{each-of}

-- whether a number is above 0
abbrev pub positive : ℕ → Bool
positive zero = false
positive (suc n) = true

-- some element passes where the sum of the passing ones is above 0
pub any_is_positive : {X : Type 0} (p : X → Bool) (xs : List X) → list_any p xs ≡ positive (total (λ x. bit (p x)) xs)
any_is_positive p [] = refl
any_is_positive p (x ∷ xs) = go (p x) (any_is_positive p xs)
  where
    go : (b : Bool) → list_any p xs ≡ positive (total (λ x. bit (p x)) xs) → (b || list_any p xs) ≡ positive (bit b + total (λ x. bit (p x)) xs)
    go true e = let k : 1 + total (λ x. bit (p x)) xs ≡ suc (total (λ x. bit (p x)) xs) = omega arith in ap positive (sym k)
    go false e = let k : 0 + total (λ x. bit (p x)) xs ≡ total (λ x. bit (p x)) xs = omega arith in e ∙ ap positive (sym k)

-- two tests that pass equally often
pub any_by_totals : {X Y : Type 0} (p : X → Bool) (xs : List X) (q : Y → Bool) (ys : List Y) → total (λ x. bit (p x)) xs ≡ total (λ y. bit (q y)) ys → list_any p xs ≡ list_any q ys
any_by_totals p xs q ys e = any_is_positive p xs ∙ ap positive e ∙ sym (any_is_positive q ys)

-- tests that agree at each element
pub any-each : {X : Type 0} (p q : X → Bool) (xs : List X) → Each (λ x. p x ≡ q x) xs → list_any p xs ≡ list_any q xs
any-each p q [] e = refl
any-each p q (x ∷ xs) e = ap (λ b. b || list_any p xs) e.0 ∙ ap (λ b. q x || b) (any-each p q xs e.1)

-- tests that agree
pub any-same : {X : Type 0} (p q : X → Bool) → ((x : X) → p x ≡ q x) → (xs : List X) → list_any p xs ≡ list_any q xs
any-same p q h xs = any-each p q xs (each-of (λ x. p x ≡ q x) h xs)
