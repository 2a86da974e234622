-- Numbers in order.
use Rattle.std.proofs.Common.{◌≡◌, ◌≢◌, ℕ, zero, suc, ◌+◌, ◌*◌, ◌<◌, ◌≤◌, Bool, true, false, List, [], ◌∷◌, ◌++◌, length, take, drop, refl, sym, ap, ◌∙◌, arith}
use Rattle.std.specs.Prelude.{◌==◌, ◌||◌}
use Rattle.std.proofs.lemmas.Bool.{ne_eqb, or_from}
use Rattle.mig_meaning.specs.Lists.{AllDifferent, has}
use Rattle.mig_store.specs.Runs.{numbers_from}

pub numbers-take : (a n r : ℕ) → take n (numbers_from a (n + r)) ≡ numbers_from a n
numbers-take a zero r = refl
numbers-take a (suc n) r =
    let e : suc n + r ≡ suc (n + r) = omega arith in
    ap (λ m. take (suc n) (numbers_from a m)) e ∙ ap (λ xs. a ∷ xs) (numbers-take (a + 1) n r)

pub numbers-drop : (a n r : ℕ) → drop n (numbers_from a (n + r)) ≡ numbers_from (a + n) r
numbers-drop a zero r =
    let e : 0 + r ≡ r = omega arith in
    let k : a ≡ a + 0 = omega arith in
    ap (λ m. drop 0 (numbers_from a m)) e ∙ ap (λ x. numbers_from x r) k
numbers-drop a (suc n) r =
    let e : suc n + r ≡ suc (n + r) = omega arith in
    let k : a + 1 + n ≡ a + suc n = omega arith in
    ap (λ m. drop (suc n) (numbers_from a m)) e ∙ (numbers-drop (a + 1) n r ∙ ap (λ x. numbers_from x r) k)

pub numbers-length : (a n : ℕ) → length (numbers_from a n) ≡ n
numbers-length a zero = refl
numbers-length a (suc n) = ap suc (numbers-length (a + 1) n)

-- one more behind
pub numbers-push : (a n : ℕ) → numbers_from a n ++ (a + n) ∷ [] ≡ numbers_from a (n + 1)
numbers-push a zero = let k : a + 0 ≡ a = omega arith in ap (λ x. x ∷ []) k
numbers-push a (suc n) =
    let k : a + suc n ≡ a + 1 + n = omega arith in
    let e : suc (n + 1) ≡ suc n + 1 = omega arith in
    ap (λ x. numbers_from a (suc n) ++ x ∷ []) k ∙ (ap (λ xs. a ∷ xs) (numbers-push (a + 1) n) ∙ ap (numbers_from a) e)

not-among : (x a n : ℕ) → x < a → has (numbers_from a n) x ≡ false
not-among x a zero l = refl
not-among x a (suc n) l = or_from (a == x) (has (numbers_from (a + 1) n) x) (ne_eqb a x (λ e. omega (arith, l, e))) (not-among x (a + 1) n (omega (arith, l)))

pub numbers-different : (a n : ℕ) → AllDifferent (numbers_from a n)
numbers-different a zero = tt
numbers-different a (suc n) = (not-among a (a + 1) n (omega arith), numbers-different (a + 1) n)
