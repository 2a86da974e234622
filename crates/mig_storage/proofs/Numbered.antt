-- A list of which one item is changed: said by numbers, and by a write.
use Rattle.std.proofs.Common.{◌≡◌, ℕ, zero, suc, ◌+◌, ◌<◌, List, [], ◌∷◌, cond, set, get_or, refl, ap, arith}
use Rattle.std.specs.Prelude.{◌==◌}
use Rattle.std.proofs.lemmas.Bool.{ne_eqb, eq-eqb}
use Rattle.mig_base.specs.Lists.{numbered}

-- no item has a number below the first one
numbered-past : {X : Type 0} (g : X → X) (k n : ℕ) (xs : List X) → k < n → numbered (λ m (x : X). cond (m == k) (g x) x) n xs ≡ xs
numbered-past g k n [] h = refl
numbered-past g k n (x ∷ xs) h = rw (ne_eqb n k (λ e. omega (arith, h, e))) (ap (λ ys. x ∷ ys) (numbered-past g k (n + 1) xs (omega (arith, h))))

pub numbered-set : {X : Type 0} (g : X → X) (k n i : ℕ) (xs : List X) (y d : X) → n + i ≡ k → y ≡ g (get_or xs i d) → numbered (λ m (x : X). cond (m == k) (g x) x) n xs ≡ set xs i y
numbered-set g k n i [] y d e h = refl
numbered-set g k n zero (x ∷ xs) y d e h =
    let here : n ≡ k = omega (arith, e) in
    rw (eq-eqb n k here, ← h) (ap (λ ys. y ∷ ys) (numbered-past g k (n + 1) xs (omega (arith, here))))
numbered-set g k n (suc i) (x ∷ xs) y d e h = rw (ne_eqb n k (λ q. omega (arith, q, e))) (ap (λ ys. x ∷ ys) (numbered-set g k (n + 1) i xs y d (omega (arith, e)) h))

-- the item of number k is changed
pub changed-set : {X : Type 0} (g : X → X) (k : ℕ) (xs : List X) (y d : X) → y ≡ g (get_or xs k d) → numbered (λ m (x : X). cond (m == k) (g x) x) 0 xs ≡ set xs k y
changed-set g k xs y d h = numbered-set g k 0 k xs y d (omega arith) h
