-- Numbers that pass a test, and the most that variables can weigh, one at a time.
use Rattle.std.proofs.Common.{◌≡◌, ℕ, ◌+◌, ◌<◌, ◌+ℤ◌, ℤ, pos, Bool, true, false, List, [], ◌∷◌, ◌++◌, length, take, get_or, refl, ap, sym, ◌∙◌, subst, arith, suc, zero}
use Rattle.std.specs.Prelude.{filter}
use Rattle.std.specs.List.{range_with_len}
use Rattle.std.proofs.lemmas.Int.{ints}
use Rattle.std.proofs.lemmas.List.{append-nil}
use Rattle.std.proofs.lemmas.List.Elements.{filter-append}
use Rattle.mig_sat.specs.declared.steps.Step.{Step}
use Rattle.mig_sat.specs.Steps.{value_at}
use Rattle.mig_maxsat.specs.Losses.{most_at, most_from}

-- one more number
pub range_more : (a n : ℕ) → range_with_len a (suc n) ≡ range_with_len a n ++ (a + n) ∷ []
range_more a zero = let e : a ≡ a + 0 = omega arith in ap (λ k. k ∷ []) e
range_more a (suc n) =
    let e : a + 1 + n ≡ a + suc n = omega arith in
    ap (λ t. a ∷ t) (range_more (a + 1) n ∙ ap (λ k. range_with_len (a + 1) n ++ k ∷ []) e)

-- one more number, as code counts it, and whether it passes
pub passing_more : (test : ℕ → Bool) (n : ℕ) → filter test (range_with_len 0 (n + 1)) ≡ filter test (range_with_len 0 n) ++ filter test (n ∷ [])
passing_more test n =
    let count : n + 1 ≡ suc n = omega arith in
    let last : 0 + n ≡ n = omega arith in
    ap (λ k. filter test (range_with_len 0 k)) count ∙ (ap (filter test) (range_more 0 n) ∙ (filter-append test (range_with_len 0 n) ((0 + n) ∷ []) ∙ ap (λ k. filter test (range_with_len 0 n) ++ filter test (k ∷ [])) last))

-- a number that passes
pub passing_one : (test : ℕ → Bool) (n : ℕ) → test n ≡ true → filter test (n ∷ []) ≡ n ∷ []
passing_one test n t = rw t refl

-- a number that does not
pub passing_not : (test : ℕ → Bool) (n : ℕ) → test n ≡ false → filter test (n ∷ []) ≡ []
passing_not test n t = rw t refl

-- the next number, taken where it passes
pub passing_taken : (test : ℕ → Bool) (n : ℕ) (numbers : List ℕ) → numbers ≡ filter test (range_with_len 0 n) → test n ≡ true → numbers ++ n ∷ [] ≡ filter test (range_with_len 0 (n + 1))
passing_taken test n numbers e t = ap (λ xs. xs ++ n ∷ []) e ∙ sym (passing_more test n ∙ ap (λ xs. filter test (range_with_len 0 n) ++ xs) (passing_one test n t))

-- and left where it does not
pub passing_left : (test : ℕ → Bool) (n : ℕ) (numbers : List ℕ) → numbers ≡ filter test (range_with_len 0 n) → test n ≡ false → numbers ≡ filter test (range_with_len 0 (n + 1))
passing_left test n numbers e t = e ∙ sym (passing_more test n ∙ (ap (λ xs. filter test (range_with_len 0 n) ++ xs) (passing_not test n t) ∙ append-nil (filter test (range_with_len 0 n))))

-- a sum and one more
pub sum_on : (a b c x : ℤ) → x ≡ b +ℤ c → (a +ℤ x) ≡ ((a +ℤ b) +ℤ c)
sum_on a b c x e = omega (arith, ints, e)

-- a sum of one
pub sum_one : (x : ℤ) → (x +ℤ pos 0) ≡ (pos 0 +ℤ x)
sum_one x = omega (arith, ints)

-- one more variable
pub most_next : (steps : List Step) (v : ℕ) (ws : List ℤ) (i : ℕ) (d : ℤ) → i < length ws → most_from steps v (take (suc i) ws) ≡ (most_from steps v (take i ws) +ℤ most_at (value_at (v + i) steps) (get_or ws i d))
most_next steps v [] i d lt = absurd (omega (arith, lt))
most_next steps v (w ∷ ws) zero d lt =
    let e : v ≡ v + 0 = omega arith in
    subst (λ (u : ℕ). (most_at (value_at v steps) w +ℤ pos 0) ≡ (pos 0 +ℤ most_at (value_at u steps) w)) e (sum_one (most_at (value_at v steps) w))
most_next steps v (w ∷ ws) (suc i) d lt =
    let e : v + 1 + i ≡ v + suc i = omega arith in
    let h = subst (λ (u : ℕ). most_from steps (v + 1) (take (suc i) ws) ≡ (most_from steps (v + 1) (take i ws) +ℤ most_at (value_at u steps) (get_or ws i d))) e (most_next steps (v + 1) ws i d (omega (arith, lt))) in
    sum_on (most_at (value_at v steps) w) (most_from steps (v + 1) (take i ws)) (most_at (value_at (v + suc i) steps) (get_or ws i d)) (most_from steps (v + 1) (take (suc i) ws)) h

-- the most by one more variable, as code counts it
pub most_is_on : (steps : List Step) (ws : List ℤ) (i : ℕ) (s r t : ℤ) → i < length ws → s ≡ most_from steps 0 (take i ws) → r ≡ most_at (value_at i steps) (get_or ws i (pos 0)) → t ≡ s +ℤ r → t ≡ most_from steps 0 (take (i + 1) ws)
most_is_on steps ws i s r t lt se re te =
    let first : 0 + i ≡ i = omega arith in
    let count : suc i ≡ i + 1 = omega arith in
    let more = subst (λ (u : ℕ). most_from steps 0 (take (suc i) ws) ≡ (most_from steps 0 (take i ws) +ℤ most_at (value_at u steps) (get_or ws i (pos 0)))) first (most_next steps 0 ws i (pos 0) lt) in
    te ∙ (ap (λ x. x +ℤ r) se ∙ (ap (λ x. most_from steps 0 (take i ws) +ℤ x) re ∙ (sym more ∙ ap (λ k. most_from steps 0 (take k ws)) count)))
