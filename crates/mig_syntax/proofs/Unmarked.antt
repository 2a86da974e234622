-- Tokens that pass no limit, and how many items lists of them have.
use Rattle.std.proofs.Common.{◌≡◌, ℕ, ◌+◌, ◌-◌, ◌<◌, ◌≤◌, ◌==◌, ◌≢◌, nat_le, nat_lt, cond, Bool, true, false, List, [], ◌∷◌, ◌++◌, length, Option, Some, None, refl, sym, subst, arith, leb-false, ltb-false, false-eqb}
use Rattle.std.specs.List.{AllByRecursion, sum_by}
use Rattle.std.proofs.lemmas.List.Sums.{sum_by-cons}
use Rattle.mig_tokens.specs.declared.token.Token.{Token}
use Rattle.mig_schema.specs.declared.limits.Limit.{Limit}
use Rattle.mig_tokens.specs.Forms.{Before, behind, numbered, led}
use Rattle.mig_tokens.specs.Limits.{over, full, first_of}
use Rattle.mig_tokens.specs.Marked.{Marked, clean}
use Rattle.mig_syntax.proofs.Alls.{all_front, all_back}

-- no limit is passed
abbrev pub IsUnmarked : Marked → Type 0
IsUnmarked m = m.1 ≡ None

abbrev pub AreUnmarked : List Marked → Type 0
AreUnmarked = AllByRecursion IsUnmarked

clean_are : (ts : List Token) → AreUnmarked (clean ts)
clean_are [] = tt
clean_are (t ∷ ts) = (refl, clean_are ts)

pub unmarked : (ms : List Marked) (ts : List Token) → ms ≡ clean ts → AreUnmarked ms
unmarked ms ts e = subst AreUnmarked (sym e) (clean_are ts)

pub front : (a b : List Marked) → AreUnmarked (a ++ b) → AreUnmarked a
front a b u = all_front IsUnmarked a b u

pub back : (a b : List Marked) → AreUnmarked (a ++ b) → AreUnmarked b
back a b u = all_back IsUnmarked a b u

-- ---- single limits

pub not_taken : {A : Type 0} (b : Bool) (w : A) → cond b (Some w) None ≡ None → b ≡ false
not_taken true w e = absurd cc
not_taken false w e = refl

pub not_spared : {A : Type 0} (b : Bool) (w : A) → cond b None (Some w) ≡ None → b ≡ true
not_spared true w e = refl
not_spared false w e = absurd cc

pub is_below : (which : Limit) (most n : ℕ) → over which most n ≡ None → n < most
is_below which most n e = leb-false most n (not_taken (nat_le most n) which e)

pub has_room : (which : Limit) (room : ℕ) → full which room ≡ None → 1 ≤ room
has_room which room e = let some_left : room ≢ 0 = false-eqb room 0 (sym (not_taken (room == 0) which e)) in omega arith

pub at_most : {A : Type 0} (which : A) (most n : ℕ) → cond (nat_lt most n) (Some which) None ≡ None → n ≤ most
at_most which most n e = ltb-false most n (not_taken (nat_lt most n) which e)

pub second_none : (a b : Option Limit) → first_of a b ≡ None → b ≡ None
second_none None b e = e
second_none (Some w) b e = absurd cc

pub first_none : (a b : Option Limit) → first_of a b ≡ None → a ≡ None
first_none None b e = refl
first_none (Some w) b e = absurd cc

-- ---- lists

module _ {A : Type 0} (takes : A → ℕ) (spell : Before → A → List Marked) where
  pub each_good : (Good : A → Type 0) → ((s : Before) (x : A) → AreUnmarked (spell s x) → Good x) → (s : Before) (xs : List A) → AreUnmarked (numbered takes spell s xs) → AllByRecursion Good xs
  each_good Good one s [] u = tt
  each_good Good one s (x ∷ xs) u =
      let more = numbered takes spell (behind (takes x) s) xs in
      (one s x (front (spell s x) more u), each_good Good one (behind (takes x) s) xs (back (spell s x) more u))

  pub count_below : (most : ℕ) → ((s : Before) (x : A) → AreUnmarked (spell s x) → s.0 < most) → (s : Before) (xs : List A) → s.0 ≤ most → AreUnmarked (numbered takes spell s xs) → s.0 + length xs ≤ most
  count_below most one s [] le u = omega arith
  count_below most one s (x ∷ xs) le u =
      let more = numbered takes spell (behind (takes x) s) xs in
      let here : s.0 < most = one s x (front (spell s x) more u) in
      let rest : (s.0 + 1) + length xs ≤ most = count_below most one (behind (takes x) s) xs (omega arith) (back (spell s x) more u) in
      omega arith

  pub room_above : ((s : Before) (x : A) → AreUnmarked (spell s x) → takes x ≤ s.1) → (s : Before) (xs : List A) → AreUnmarked (numbered takes spell s xs) → sum_by takes xs ≤ s.1
  room_above one s [] u = omega arith
  room_above one s (x ∷ xs) u =
      let more = numbered takes spell (behind (takes x) s) xs in
      let here : takes x ≤ s.1 = one s x (front (spell s x) more u) in
      let rest : sum_by takes xs ≤ s.1 - takes x = room_above one (behind (takes x) s) xs (back (spell s x) more u) in
      omega (arith, sum_by-cons takes x xs)

module _ {A : Type 0} (takes : A → ℕ) (first other : Before → A → List Marked) where
  pub led_good : (Good : A → Type 0) → ((s : Before) (x : A) → AreUnmarked (first s x) → Good x) → ((s : Before) (x : A) → AreUnmarked (other s x) → Good x)
      → (s : Before) (xs : List A) → AreUnmarked (led takes first other s xs) → AllByRecursion Good xs
  led_good Good one two s [] u = tt
  led_good Good one two s (x ∷ xs) u =
      let more = numbered takes other (behind (takes x) s) xs in
      (one s x (front (first s x) more u), each_good takes other Good two (behind (takes x) s) xs (back (first s x) more u))

  pub led_below : (most : ℕ) → 0 < most → ((s : Before) (x : A) → AreUnmarked (other s x) → s.0 < most) → (room : ℕ) (xs : List A) → AreUnmarked (led takes first other (0, room) xs) → length xs ≤ most
  led_below most pos two room [] u = omega arith
  led_below most pos two room (x ∷ xs) u =
      let rest : (0 + 1) + length xs ≤ most = count_below takes other most two (behind (takes x) (0, room)) xs (omega arith) (back (first (0, room) x) (numbered takes other (behind (takes x) (0, room)) xs) u) in
      omega arith

  pub led_room : ((s : Before) (x : A) → AreUnmarked (first s x) → takes x ≤ s.1) → ((s : Before) (x : A) → AreUnmarked (other s x) → takes x ≤ s.1)
      → (s : Before) (xs : List A) → AreUnmarked (led takes first other s xs) → sum_by takes xs ≤ s.1
  led_room one two s [] u = omega arith
  led_room one two s (x ∷ xs) u =
      let more = numbered takes other (behind (takes x) s) xs in
      let here : takes x ≤ s.1 = one s x (front (first s x) more u) in
      let rest : sum_by takes xs ≤ s.1 - takes x = room_above takes other two (behind (takes x) s) xs (back (first s x) more u) in
      omega (arith, sum_by-cons takes x xs)
