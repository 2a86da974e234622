-- The first broken place, found number by number.
use Rattle.std.proofs.Common.{◌≡◌, ℕ, ◌+◌, ◌<◌, ◌≤◌, zero, suc, Bool, true, false, List, [], ◌∷◌, length, take, get_or, refl, sym, ap, ◌∙◌, ◌⊎◌, ⊎_elim, inl, inr, arith}
use Rattle.std.specs.Prelude.{Option, Some, None}
use Rattle.std.specs.List.{list_any, range_with_len, slice_get}
use Rattle.std.specs.Option.{option_map_or, is_some}
use Rattle.std.proofs.lemmas.Bool.{cases_lt, both_ways, or_from, or_left, or_right}
use Rattle.std.proofs.lemmas.Option.{slice_get_past}
use Rattle.mig_base.specs.Lists.{again}
use Rattle.mig_typing.specs.First.{Before, IsFirstBroken, IsFirst}
use Rattle.mig_typing.specs.Broken.{item_has}

-- a number that is broken, where none below it is
pub first_number : (t : ℕ → Bool) (k : ℕ) → t k ≡ true → ((j : ℕ) → j < k → t j ≡ false) → IsFirstBroken (λ k. k ∷ []) t k
first_number t k is none = record { here = is; before = λ j lt. ⊎_elim (λ (l : j < k). none j l) (λ (h : (j ≡ k) × ⊥). absurd h.1) lt }

-- below the first broken number none is broken
pub below_first : (t : ℕ → Bool) (k : ℕ) → IsFirstBroken (λ k. k ∷ []) t k → (j : ℕ) → j < k → t j ≡ false
below_first t k first j lt = first.before j (inl lt)

-- past the end nothing is like an earlier item
pub again_past : {A : Type 0} (like : A → A → Bool) (xs : List A) (i : ℕ) → length xs ≤ i → again like xs i ≡ false
again_past {A} like xs i past = ap (λ o. option_map_or (λ (x : A). list_any (λ y. like y x) (take i xs)) o false) (slice_get_past xs i past)

-- past the end no item has a fault
pub item_past : {A : Type 0} (test : A → Bool) (xs : List A) (i : ℕ) → length xs ≤ i → item_has test xs i ≡ false
item_past test xs i past = ap (λ o. option_map_or test o false) (slice_get_past xs i past)

-- what holds of each number below the end, and past it, holds of each
pub everywhere : (t : ℕ → Bool) (n : ℕ) → ((k : ℕ) → k < n → t k ≡ false) → ((k : ℕ) → n ≤ k → t k ≡ false) → (k : ℕ) → t k ≡ false
everywhere t n below past k = ⊎_elim (below k) (past k) (cases_lt k n)

-- where no number is broken, none in a range is
pub none_in_range : (t : ℕ → Bool) (a n : ℕ) → ((k : ℕ) → t k ≡ false) → list_any t (range_with_len a n) ≡ false
none_in_range t a zero none = refl
none_in_range t a (suc n) none = or_from (t a) (list_any t (range_with_len (a + 1) n)) (none a) (none_in_range t (a + 1) n none)

-- a broken number of a range is one that is found there
pub some_in_range : (t : ℕ → Bool) (a n k : ℕ) → t k ≡ true → a ≤ k → k < a + n → list_any t (range_with_len a n) ≡ true
some_in_range t a zero k is low high = absurd (omega arith)
some_in_range t a (suc n) k is low high =
    ⊎_elim
    (λ (l : a < k). or_right (t a) (list_any t (range_with_len (a + 1) n)) (some_in_range t (a + 1) n k is (omega arith) (omega arith)))
    (λ (h : k ≤ a). let e : a ≡ k = omega arith in or_left (t a) (list_any t (range_with_len (a + 1) n)) (ap t e ∙ is))
    (cases_lt a k)

-- there is a first one exactly where one of the numbers up to the end is broken
pub any_below : (t : ℕ → Bool) (n : ℕ) (r : Option ℕ) → ((k : ℕ) → n ≤ k → t k ≡ false) → IsFirst (λ k. k ∷ []) t r → is_some r ≡ list_any t (range_with_len 0 n)
any_below t n None past none = sym (none_in_range t 0 n none)
any_below t n (Some k) past first =
    ⊎_elim (λ (l : k < n). sym (some_in_range t 0 n k first.here (omega arith) (omega arith))) (λ (h : n ≤ k). absurd (both_ways (t k) (past k h) first.here)) (cases_lt k n)

-- what holds of each number below i, and at i, holds below i + 1
pub at_most : (t : ℕ → Bool) (i : ℕ) → ((j : ℕ) → j < i → t j ≡ false) → t i ≡ false → (j : ℕ) → j < i + 1 → t j ≡ false
at_most t i below here j lt = ⊎_elim (λ (l : j < i). below j l) (λ (h : i ≤ j). let e : j ≡ i = omega arith in ap t e ∙ here) (cases_lt j i)

-- a broken place, where none with a lower first number is broken, and none before it with the same
pub nest : {P : Type 0} (head : P → ℕ) (tail : P → List ℕ) (broken : P → Bool) (place : P) → broken place ≡ true → ((q : P) → head q < head place → broken q ≡ false) → ((q : P) → head q ≡ head place → Before (tail q) (tail place) → broken q ≡ false) → IsFirstBroken (λ p. head p ∷ tail p) broken place
nest {P} head tail broken place is below same = record {
  here = is;
  before = λ q lt. ⊎_elim (λ (l : head q < head place). below q l) (λ (h : (head q ≡ head place) × Before (tail q) (tail place)). same q h.0 h.1) lt;
}
