-- The tokens of the trees that programs are printed from pass no limit.
use Rattle.std.proofs.Common.{◌≡◌, ℕ, ◌+◌, ◌-◌, ◌<◌, ◌≤◌, ◌==◌, suc, nat_lt, cond, true, false, ℤ, pos, negsuc, List, [], ◌∷◌, map, length, Option, Some, None, refl, ap, ◌∙◌, arith, decimal, if◌then◌else◌, le-ltb, ne_eqb}
use Rattle.std.specs.Fmt.{signed_decimal}
use Rattle.std.specs.List.{AllByRecursion, sum_by}
use Rattle.std.proofs.lemmas.Bool.{le-leb, lt-leb}
use Rattle.std.proofs.lemmas.List.Sums.{sum_by-cons}
use Rattle.mig_schema.specs.declared.limits.Limit.{Limit}
use Rattle.mig_schema.specs.declared.limits.Limit.TheVariants as limit
use Rattle.mig_tokens.specs.Forms.{Before, behind, no_room, numbered, led, listed, behind_comma, start}
use Rattle.mig_tokens.specs.Limits.{over, full, first_of, name_mark, int_mark, text_mark}
use Rattle.mig_tokens.specs.Marked.{Marked}
use Rattle.mig_tokens.specs.Numbers.{magnitude, is_negative, is_label, label_of, int_of}
use Rattle.mig_grammar.specs.Spelling.{label_mark}
use Rattle.mig_syntax.specs.Printable.{IsNameText}
use Rattle.mig_schema.specs.Within.{FitsInt}
use Rattle.mig_syntax.proofs.Alls.{all_joined}
use Rattle.mig_syntax.proofs.LexingBytes.{Spells, decimal_spells, digit_range}
use Rattle.mig_syntax.proofs.Unmarked.{IsUnmarked, AreUnmarked}

-- ---- numbers are what they were printed of

negative_not : (n b : ℕ) (bs : List ℕ) → Spells n (b ∷ bs) → (b == 45) ≡ false
negative_not n b bs s = let low : 48 ≤ b = (digit_range b s.first).0 in ne_eqb b 45 (λ e. omega arith)

pub magnitude_is : (n : ℕ) (ds : List ℕ) → Spells n ds → magnitude ds ≡ n
magnitude_is n [] s = s.number
magnitude_is n (b ∷ bs) s = rw (negative_not n b bs s) s.number

pub negative_is : (n : ℕ) (ds : List ℕ) → Spells n ds → is_negative ds ≡ false
negative_is n [] s = refl
negative_is n (b ∷ bs) s = negative_not n b bs s

positive_mark : (n : ℕ) (ds : List ℕ) → Spells n ds → n ≤ 9223372036854775807 → int_mark ds ≡ None
positive_mark n ds s le = rw (magnitude_is n ds s, negative_is n ds s, le-leb n 9223372036854775807 le) refl

negative_mark : (n : ℕ) (ds : List ℕ) → Spells (suc n) ds → suc n ≤ 9223372036854775808 → int_mark (45 ∷ ds) ≡ None
negative_mark n ds s le = rw (s.number, le-leb (suc n) 9223372036854775808 le) refl

pub int_unmarked : (i : ℤ) → FitsInt i → int_mark (signed_decimal i) ≡ None
int_unmarked (pos n) fits = positive_mark n (decimal n) (decimal_spells n (omega arith)) (omega arith)
int_unmarked (negsuc n) fits = negative_mark n (decimal (suc n)) (decimal_spells (suc n) (omega arith)) (omega arith)

positive_back : (n : ℕ) (ds : List ℕ) → Spells n ds → n ≤ 9223372036854775807 → int_of ds ≡ pos n
positive_back n ds s le = rw (magnitude_is n ds s, negative_is n ds s, le-leb n 9223372036854775807 le) refl

negative_back : (n : ℕ) (ds : List ℕ) → Spells (suc n) ds → suc n ≤ 9223372036854775808 → int_of (45 ∷ ds) ≡ negsuc n
negative_back n ds s le = rw (s.number, le-leb (suc n) 9223372036854775808 le) refl

pub int_back : (i : ℤ) → FitsInt i → int_of (signed_decimal i) ≡ i
int_back (pos n) fits = positive_back n (decimal n) (decimal_spells n (omega arith)) (omega arith)
int_back (negsuc n) fits = negative_back n (decimal (suc n)) (decimal_spells (suc n) (omega arith)) (omega arith)

label_is : (n : ℕ) (ds : List ℕ) → Spells n ds → n ≤ 15 → is_label ds ≡ true
label_is n ds s le = rw (magnitude_is n ds s, negative_is n ds s, le-leb n 15 le) refl

pub label_back : (n : ℕ) → n ≤ 15 → label_of (decimal n) ≡ n
label_back n le = by n (decimal n) (decimal_spells n (omega arith)) le
  where
    by : (n : ℕ) (ds : List ℕ) → Spells n ds → n ≤ 15 → label_of ds ≡ n
    by n ds s le = ap (λ b. if b then magnitude ds else 0) (label_is n ds s le) ∙ magnitude_is n ds s

-- ---- single tokens

pub both_none : (a b : Option Limit) → a ≡ None → b ≡ None → first_of a b ≡ None
both_none None b e f = f
both_none (Some w) b e f = absurd cc

pub over_none : (which : Limit) (most n : ℕ) → n < most → over which most n ≡ None
over_none which most n lt = rw (lt-leb most n lt) refl

pub full_none : (which : Limit) (room : ℕ) → 1 ≤ room → full which room ≡ None
full_none which room le = rw (ne_eqb room 0 (λ e. omega arith)) refl

pub name_unmarked : (w : List ℕ) → IsNameText w → name_mark w ≡ None
name_unmarked w n = by (length w) n.short
  where
    by : (k : ℕ) → k ≤ 32 → cond (nat_lt 32 k) (Some limit.Name) None ≡ None
    by k le = rw (le-ltb 32 k le) refl

pub text_unmarked : (t : List ℕ) → length t ≤ 1024 → text_mark t ≡ None
text_unmarked t le = by (length t) le
  where
    by : (k : ℕ) → k ≤ 1024 → cond (nat_lt 1024 k) (Some limit.Text) None ≡ None
    by k le = rw (le-ltb 1024 k le) refl

pub label_unmarked : (n : ℕ) → n ≤ 15 → label_mark (decimal n) ≡ None
label_unmarked n le = by n (decimal n) (decimal_spells n (omega arith)) le
  where
    by : (n : ℕ) (ds : List ℕ) → Spells n ds → n ≤ 15 → label_mark ds ≡ None
    by n ds s le = both_none (int_mark ds) (cond (is_label ds) None (Some limit.Label)) (positive_mark n ds s (omega arith)) (ap (λ b. cond b None (Some limit.Label)) (label_is n ds s le))

-- ---- lists

no_sum : {A : Type 0} (xs : List A) → sum_by (λ (x : A). 0) xs ≡ 0
no_sum [] = refl
no_sum {A} (x ∷ xs) = let e = no_sum xs in let k = sum_by-cons (λ (y : A). 0) x xs in omega arith

module _ {A B : Type 0} (f : A → B) (takes : B → ℕ) (Good : A → Type 0) (most : ℕ) where
  numbered_marks : (spell : Before → B → List Marked) → ((st : Before) (x : A) → Good x → st.0 < most → takes (f x) ≤ st.1 → AreUnmarked (spell st (f x)))
      → (st : Before) (xs : List A) → AllByRecursion Good xs → st.0 + length xs ≤ most → sum_by (λ (x : A). takes (f x)) xs ≤ st.1 → AreUnmarked (numbered takes spell st (map f xs))
  numbered_marks spell one st [] good count room = tt
  numbered_marks spell one st (x ∷ xs) good count room =
      let sum = sum_by-cons (λ (y : A). takes (f y)) x xs in
      let count_here : st.0 < most = omega arith in
      let room_here : takes (f x) ≤ st.1 = omega arith in
      let count_next : (st.0 + 1) + length xs ≤ most = omega arith in
      let room_next : sum_by (λ (y : A). takes (f y)) xs ≤ st.1 - takes (f x) = omega arith in
      all_joined IsUnmarked (spell st (f x)) (numbered takes spell (behind (takes (f x)) st) (map f xs)) (one st x good.0 count_here room_here)
      (numbered_marks spell one (behind (takes (f x)) st) xs good.1 count_next room_next)

  pub led_marks : (first other : Before → B → List Marked) → ((st : Before) (x : A) → Good x → st.0 < most → takes (f x) ≤ st.1 → AreUnmarked (first st (f x))) → ((st : Before) (x : A) → Good x → st.0 < most → takes (f x) ≤ st.1 → AreUnmarked (other st (f x)))
      → (st : Before) (xs : List A) → AllByRecursion Good xs → st.0 + length xs ≤ most → sum_by (λ (x : A). takes (f x)) xs ≤ st.1 → AreUnmarked (led takes first other st (map f xs))
  led_marks first other one two st [] good count room = tt
  led_marks first other one two st (x ∷ xs) good count room =
      let sum = sum_by-cons (λ (y : A). takes (f y)) x xs in
      let count_here : st.0 < most = omega arith in
      let room_here : takes (f x) ≤ st.1 = omega arith in
      let count_next : (st.0 + 1) + length xs ≤ most = omega arith in
      let room_next : sum_by (λ (y : A). takes (f y)) xs ≤ st.1 - takes (f x) = omega arith in
      all_joined IsUnmarked (first st (f x)) (numbered takes other (behind (takes (f x)) st) (map f xs)) (one st x good.0 count_here room_here)
      (numbered_marks other two (behind (takes (f x)) st) xs good.1 count_next room_next)

pub counted_marks : {A B : Type 0} (f : A → B) (Good : A → Type 0) (most : ℕ) (spell : Before → B → List Marked) → ((st : Before) (x : A) → Good x → st.0 < most → AreUnmarked (spell st (f x)))
    → (n : ℕ) (xs : List A) → AllByRecursion Good xs → n + length xs ≤ most → AreUnmarked (numbered no_room spell (n, 0) (map f xs))
counted_marks {A} f Good most spell one n xs good few =
    let nothing = no_sum xs in
    numbered_marks f no_room Good most spell (λ st x k lt le. one st x k lt) (n, 0) xs good (omega arith) (omega arith)

-- items with commas between them
pub listed_marks : {A B : Type 0} (f : A → B) (Good : A → Type 0) (most : ℕ) (spell : Before → B → List Marked) → ((st : Before) (x : A) → Good x → st.0 < most → AreUnmarked (spell st (f x)))
    → (xs : List A) → AllByRecursion Good xs → length xs ≤ most → AreUnmarked (listed no_room spell start (map f xs))
listed_marks {A} f Good most spell one xs good few =
    let nothing = no_sum xs in
    led_marks f no_room Good most spell (behind_comma spell) (λ st x n lt le. one st x n lt) (λ st x n lt le. (refl, one st x n lt)) start xs good (omega arith) (omega arith)
