-- The first of numbered items that passes a test.
use Rattle.std.proofs.Common.{◌≡◌, ℕ, ◌+◌, ◌<◌, ◌≤◌, zero, suc, Bool, true, false, List, [], ◌∷◌, ◌++◌, map, length, refl, sym, ap, ◌∙◌, ◌⊎◌, ⊎_elim, inl, inr, arith}
use Rattle.std.specs.Prelude.{Option, Some, None, cond}
use Rattle.std.specs.List.{find}
use Rattle.std.specs.Option.{is_some}
use Rattle.std.proofs.lemmas.Bool.{cases_lt, cases_Bool, cond-true, cond-false, both_ways, true≢false, false≢true}
use Rattle.mig_base.specs.Lists.{numbered}

module _ {A B : Type 0} (p : B → Bool) (f : ℕ → B) where
  pub find_none : (n : ℕ) (xs : List A) → ((k : ℕ) → n ≤ k → k < n + length xs → p (f k) ≡ false) → find p (numbered (λ k (x : A). f k) n xs) ≡ None
  find_none n [] none = refl
  find_none n (x ∷ xs) none = cond-false (p (f n)) (Some (f n)) (find p (numbered (λ k (x : A). f k) (n + 1) xs)) (none n (omega arith) (omega arith)) ∙ find_none (n + 1) xs (λ k low high. none k (omega arith) (omega arith))

  pub find_at : (n : ℕ) (xs : List A) (i : ℕ) → n ≤ i → i < n + length xs → p (f i) ≡ true → ((k : ℕ) → n ≤ k → k < i → p (f k) ≡ false) → find p (numbered (λ k (x : A). f k) n xs) ≡ Some (f i)
  find_at n [] i low high is none = absurd (omega arith)
  find_at n (x ∷ xs) i low high is none =
      ⊎_elim
      (λ (l : n < i). cond-false (p (f n)) (Some (f n)) (find p (numbered (λ k (x : A). f k) (n + 1) xs)) (none n (omega arith) l) ∙ find_at (n + 1) xs i (omega arith) (omega arith) is (λ k a b. none k (omega arith) b))
      (λ (h : i ≤ n). let e : n ≡ i = omega arith in cond-true (p (f n)) (Some (f n)) (find p (numbered (λ k (x : A). f k) (n + 1) xs)) (ap (λ k. p (f k)) e ∙ is) ∙ ap (λ k. Some (f k)) e)
      (cases_lt n i)

-- an answer that is the item where it passes is the first one that does, where none before it passes
pub find_hit : {A B : Type 0} (p : B → Bool) (f : ℕ → B) (xs : List A) (i : ℕ) (r : Option B) → r ≡ cond (p (f i)) (Some (f i)) None → is_some r ≡ true → i < length xs → ((k : ℕ) → k < i → p (f k) ≡ false) → r ≡ find p (numbered (λ k (x : A). f k) 0 xs)
find_hit {A} p f xs i r is some lt none =
    ⊎_elim
    (λ (e : p (f i) ≡ true). is ∙ cond-true (p (f i)) (Some (f i)) None e ∙ sym (find_at {A = A} p f 0 xs i (omega arith) (omega arith) e (λ k low high. none k high)))
    (λ (e : p (f i) ≡ false). absurd (both_ways (is_some r) (ap is_some (is ∙ cond-false (p (f i)) (Some (f i)) None e)) some))
    (cases_Bool (p (f i)))

-- an answer that is nothing: the item does not pass
pub find_miss : {B : Type 0} (b : Bool) (x : B) (r : Option B) → r ≡ cond b (Some x) None → is_some r ≡ false → b ≡ false
find_miss true x r is none = absurd (both_ways (is_some r) none (ap is_some is))
find_miss false x r is none = refl

-- ---- the first of a list of parts is the first of its front, or else that of the rest

some_step : {B : Type 0} (b : Bool) (x y : B) (o o' : Option B) → (o ≡ Some y → o' ≡ Some y) → cond b (Some x) o ≡ Some y → cond b (Some x) o' ≡ Some y
some_step true x y o o' next e = e
some_step false x y o o' next e = next e

none_step : {B : Type 0} (b : Bool) (x : B) (o o' o'' : Option B) → (o ≡ None → o' ≡ o'') → cond b (Some x) o ≡ None → cond b (Some x) o' ≡ o''
none_step true x o o' o'' next e = absurd (true≢false (ap is_some e))
none_step false x o o' o'' next e = next e

-- what is found in the first of two lists is found in both together
pub find-append_some : {B : Type 0} (p : B → Bool) (xs ys : List B) (y : B) → find p xs ≡ Some y → find p (xs ++ ys) ≡ Some y
find-append_some p [] ys y e = absurd (false≢true (ap is_some e))
find-append_some p (x ∷ xs) ys y e = some_step (p x) x y (find p xs) (find p (xs ++ ys)) (find-append_some p xs ys y) e

-- where nothing is found there, it is sought in the second
pub find-append_none : {B : Type 0} (p : B → Bool) (xs ys : List B) → find p xs ≡ None → find p (xs ++ ys) ≡ find p ys
find-append_none p [] ys e = refl
find-append_none p (x ∷ xs) ys e = none_step (p x) x (find p xs) (find p (xs ++ ys)) (find p ys) (find-append_none p xs ys) e
