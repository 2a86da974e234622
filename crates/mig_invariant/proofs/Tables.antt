-- Columns table by table, one table or one column more at a time.
use Rattle.std.proofs.Common.{◌≡◌, ℕ, zero, suc, ◌+◌, ◌<◌, List, [], ◌∷◌, ◌++◌, length, take, get_or, map, refl, ap, sym, ◌∙◌, arith, append-nil}
use Rattle.std.specs.List.{flat_map, range_with_len}
use Rattle.std.proofs.lemmas.Grind.{flat_map-append}
use Rattle.std.proofs.lemmas.List.Folds.{flat_map-map}
use Rattle.std.proofs.lemmas.List.FromFn.{map-range_with_len_more}
use Rattle.mig_base.specs.Lists.{numbered}

-- what f gives for each number below n, and for n
pub flat_range_more : {A : Type 0} (f : ℕ → List A) (n : ℕ) → flat_map f (range_with_len 0 (n + 1)) ≡ flat_map f (range_with_len 0 n) ++ f n
flat_range_more f n =
    sym (flat_map-map f (λ (x : ℕ). x) (range_with_len 0 (n + 1)))
    ∙ ap (flat_map f) (map-range_with_len_more (λ (x : ℕ). x) 0 n n (omega arith))
    ∙ flat_map-append f (map (λ (x : ℕ). x) (range_with_len 0 n)) (n ∷ [])
    ∙ ap (λ xs. xs ++ (f n ++ [])) (flat_map-map f (λ (x : ℕ). x) (range_with_len 0 n))
    ∙ ap (λ ys. flat_map f (range_with_len 0 n) ++ ys) (append-nil (f n))

-- the first items by their numbers, and one item more
numbered_from : {A B : Type 0} (f : ℕ → A → B) (n : ℕ) (xs : List A) (i : ℕ) (d : A) → i < length xs → numbered f n (take (i + 1) xs) ≡ numbered f n (take i xs) ++ f (n + i) (get_or xs i d) ∷ []
numbered_from f n [] i d lt = absurd (omega (arith, lt))
numbered_from f n (x ∷ xs) zero d lt = let e : n + 0 ≡ n = omega arith in rw e refl
numbered_from f n (x ∷ xs) (suc i) d lt =
    let e : n + suc i ≡ n + 1 + i = omega arith in
    let step : suc i + 1 ≡ suc (i + 1) = omega arith in
    rw (step, e) (ap (λ ys. f n x ∷ ys) (numbered_from f (n + 1) xs i d (omega (arith, lt))))

-- the same from 0 on
pub numbered_more : {A B : Type 0} (f : ℕ → A → B) (xs : List A) (i : ℕ) (d : A) → i < length xs → numbered f 0 (take (i + 1) xs) ≡ numbered f 0 (take i xs) ++ f i (get_or xs i d) ∷ []
numbered_more f xs i d lt = let e : 0 + i ≡ i = omega arith in rw e at (numbered_from f 0 xs i d lt)
