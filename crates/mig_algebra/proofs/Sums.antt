-- Sums over lists: parts, exchange, and numbers that count only where a test is true.
use Rattle.std.proofs.Common.{◌≡◌, ℕ, ◌+◌, ◌*◌, Bool, true, false, cond, ◌&&◌, List, [], ◌∷◌, ◌++◌, refl, sym, ap, ◌∙◌, arith}
use Rattle.std.specs.Prelude.{filter, flat_map}
use Rattle.mig_meaning.specs.Lists.{total, bit, Each}
use Rattle.mig_meaning.proofs.Bags.{total-append}

-- the number where a test is true, and else 0
abbrev pub when : Bool → ℕ → ℕ
when true n = n
when false n = 0

-- equal summands at each element
pub total-each : {X : Type 0} (f g : X → ℕ) (xs : List X) → Each (λ x. f x ≡ g x) xs → total f xs ≡ total g xs
total-each f g [] e = refl
total-each f g (x ∷ xs) e = omega (arith, e.0, total-each f g xs e.1)

-- equal functions
pub total-same : {X : Type 0} (f g : X → ℕ) → ((x : X) → f x ≡ g x) → (xs : List X) → total f xs ≡ total g xs
total-same f g h [] = refl
total-same f g h (x ∷ xs) = omega (arith, h x, total-same f g h xs)

-- nothing but zeros
pub total-zero : {X : Type 0} (xs : List X) → total (λ x. 0) xs ≡ 0
total-zero [] = refl
total-zero (x ∷ xs) = omega (arith, total-zero xs)

-- zeros at each element
pub total-none : {X : Type 0} (f : X → ℕ) (xs : List X) → Each (λ x. f x ≡ 0) xs → total f xs ≡ 0
total-none f xs h = total-each f (λ x. 0) xs h ∙ total-zero xs

-- one element alone counts
pub total-one : {X : Type 0} (f : X → ℕ) (us : List X) (q : X) (vs : List X) → Each (λ x. f x ≡ 0) us → Each (λ x. f x ≡ 0) vs → total f (us ++ (q ∷ vs)) ≡ f q
total-one f us q vs a b = omega (arith, total-append f us (q ∷ vs), total-none f us a, total-none f vs b)

-- the sum of two functions
pub total-add : {X : Type 0} (f g : X → ℕ) (xs : List X) → total (λ x. f x + g x) xs ≡ total f xs + total g xs
total-add f g [] = refl
total-add f g (x ∷ xs) = omega (arith, total-add f g xs)

-- a factor
pub total-times : {X : Type 0} (f : X → ℕ) (n : ℕ) (xs : List X) → total (λ x. f x * n) xs ≡ total f xs * n
total-times f n [] = omega arith
total-times f n (x ∷ xs) = omega (arith, total-times f n xs)

-- two sums exchanged
pub total-swap : {X Y : Type 0} (f : X → Y → ℕ) (xs : List X) (ys : List Y) → total (λ x. total (f x) ys) xs ≡ total (λ y. total (λ x. f x y) xs) ys
total-swap f [] ys = sym (total-zero ys)
total-swap f (x ∷ xs) ys =
    ap (λ n. total (f x) ys + n) (total-swap f xs ys) ∙ sym (total-add (f x) (λ y. total (λ z. f z y) xs) ys)

-- lists joined end to end
pub total-flat_map : {X Y : Type 0} (f : Y → ℕ) (h : X → List Y) (xs : List X) → total f (flat_map h xs) ≡ total (λ x. total f (h x)) xs
total-flat_map f h [] = refl
total-flat_map f h (x ∷ xs) = total-append f (h x) (flat_map h xs) ∙ ap (λ n. total f (h x) + n) (total-flat_map f h xs)

-- what a filter leaves
pub total-filter : {X : Type 0} (f : X → ℕ) (p : X → Bool) (xs : List X) → total f (filter p xs) ≡ total (λ x. when (p x) (f x)) xs
total-filter f p [] = refl
total-filter f p (x ∷ xs) = go (p x) (filter p xs) (total-filter f p xs)
  where
    go : (b : Bool) (ys : List _) → total f ys ≡ total (λ x. when (p x) (f x)) xs → total f (cond b (x ∷ ys) ys) ≡ when b (f x) + total (λ x. when (p x) (f x)) xs
    go true ys e = ap (λ n. f x + n) e
    go false ys e = e ∙ omega arith

-- ---- tests

-- a test as a factor
pub when_bit : (b : Bool) (n : ℕ) → when b n ≡ bit b * n
when_bit true n = omega arith
when_bit false n = omega arith

-- a test of 1
pub when_one : (b : Bool) → when b 1 ≡ bit b
when_one true = refl
when_one false = refl

-- two tests
pub when_and : (a b : Bool) (n : ℕ) → when (a && b) n ≡ when a (when b n)
when_and true b n = refl
when_and false b n = refl

-- two tests in the other order
pub when_swap : (a b : Bool) (n : ℕ) → when a (when b n) ≡ when b (when a n)
when_swap true true n = refl
when_swap true false n = refl
when_swap false true n = refl
when_swap false false n = refl

-- a test that another one gives may be asked first
pub when_given : (t b : Bool) (n : ℕ) → (b ≡ true → t ≡ true) → when b n ≡ when t (when b n)
when_given true b n h = refl
when_given false true n h = cc (h refl)
when_given false false n h = refl

-- a test that does not look at the elements
pub total-when : {X : Type 0} (b : Bool) (f : X → ℕ) (xs : List X) → total (λ x. when b (f x)) xs ≡ when b (total f xs)
total-when true f xs = refl
total-when false f xs = total-zero xs
