-- The tokens of names, numbers and texts.
use Rattle.std.proofs.Common.{◌≡◌, ℕ, ◌+◌, ◌-◌, ◌*◌, ◌/◌, ◌%◌, ◌^◌, ◌<◌, ◌≤◌, ◌==◌, ◌&&◌, ◌||◌, suc, nat_le, Bool, true, false, if◌then◌else◌, ℤ, pos, negsuc, List, [], ◌∷◌, ◌++◌, take, drop, length, take_while, Option, Some, inl, inr, refl, sym, ap, ◌∙◌, subst, append_assoc, arith, decimal, leb-true, ne_eqb, eqb-true}
use Rattle.std.specs.Fmt.{signed_decimal}
use Rattle.std.specs.List.{AllByRecursion, prefix_len, flat_map}
use Rattle.std.specs.Str.{is_utf8}
use Rattle.std.proofs.lemmas.Bool.{or_cases, and_parts, cases_eq, lt-leb, le-leb}
use Rattle.std.proofs.lemmas.Fmt.{decimal_by_steps}
use Rattle.mig_tokens.specs.declared.token.Token.{Token}
use Rattle.mig_tokens.specs.declared.token.Token.TheVariants.{Word, Int, Text}
use Rattle.mig_schema.specs.declared.limits.Limit.{Limit}
use Rattle.mig_base.specs.Digits.{digits_from, is_digit}
use Rattle.mig_tokens.specs.Bytes.{is_letter, is_name_byte, first_is, after_gap}
use Rattle.mig_tokens.specs.Tokens.{Lexes, first_token, cut, text_at, text_token, joined}
use Rattle.mig_printing.specs.Printing.{escaped, quoted}
use Rattle.mig_syntax.specs.Printable.{IsNameText}
use Rattle.mig_schema.specs.Within.{FitsInt}
use Rattle.mig_syntax.proofs.Alls.{all_joined}
use Rattle.mig_syntax.proofs.Lexing.{Breaks, Prints, Ends}

-- ---- gaps

pub space : (rest : List ℕ) (more : List Token) → Lexes rest more → Lexes (32 ∷ rest) more
space rest [] h = h
space rest (t ∷ more) h = h

pub line : (rest : List ℕ) (more : List Token) → Lexes rest more → Lexes (10 ∷ rest) more
line rest [] h = h
line rest (t ∷ more) h = h

-- ---- classes of bytes

letter_high : (b : ℕ) → is_letter b ≡ true → 65 ≤ b
letter_high b e =
    elim (or_cases (nat_le 97 b && nat_le b 122) ((nat_le 65 b && nat_le b 90) || (b == 95)) e) [
      | inl h ↦ let low : 97 ≤ b = leb-true 97 b (and_parts (nat_le 97 b) (nat_le b 122) h).0 in omega arith
      | inr h ↦ elim (or_cases (nat_le 65 b && nat_le b 90) (b == 95) h) [
        | inl k ↦ leb-true 65 b (and_parts (nat_le 65 b) (nat_le b 90) k).0
        | inr k ↦ let is : b ≡ 95 = eqb-true b 95 k in omega arith
      ]
    ]

pub digit_range : (b : ℕ) → is_digit b ≡ true → (48 ≤ b) × (b ≤ 57)
digit_range b e = let h = and_parts (nat_le 48 b) (nat_le b 57) e in (leb-true 48 b h.0, leb-true b 57 h.1)

digit_no_letter : (b : ℕ) → is_digit b ≡ true → is_letter b ≡ false
digit_no_letter b e =
    let r = digit_range b e in
    let high : b ≤ 57 = r.1 in
    rw (lt-leb 97 b (omega arith), lt-leb 65 b (omega arith), ne_eqb b 95 (λ k. omega arith)) refl

-- a byte from 48 on is no gap
solid : (b : ℕ) (bs : List ℕ) → 48 ≤ b → after_gap (b ∷ bs) ≡ b ∷ bs
solid b bs low = rw (ne_eqb b 32 (λ k. omega arith), ne_eqb b 9 (λ k. omega arith), ne_eqb b 13 (λ k. omega arith), ne_eqb b 10 (λ k. omega arith), ne_eqb b 35 (λ k. omega arith)) refl

-- ---- the longest front that passes

front_taken : (w rest : List ℕ) → take (length w) (w ++ rest) ≡ w
front_taken [] rest = refl
front_taken (b ∷ bs) rest = ap (λ (xs : List ℕ). b ∷ xs) (front_taken bs rest)

front_dropped : (w rest : List ℕ) → drop (length w) (w ++ rest) ≡ rest
front_dropped [] rest = refl
front_dropped (b ∷ bs) rest = front_dropped bs rest

module _ (p : ℕ → Bool) where
  prefix_is : (w rest : List ℕ) → AllByRecursion (λ (b : ℕ). p b ≡ true) w → first_is p rest ≡ false → prefix_len p (w ++ rest) ≡ length w
  prefix_is [] [] all stop = refl
  prefix_is [] (b ∷ bs) all stop = rw stop refl
  prefix_is (b ∷ bs) rest all stop = let more = prefix_is bs rest all.1 stop in rw all.0 (omega arith)

  while_is : (w rest : List ℕ) → AllByRecursion (λ (b : ℕ). p b ≡ true) w → first_is p rest ≡ false → length (take_while p (w ++ rest)) ≡ length w
  while_is w rest all stop = ap (λ n. length (take n (w ++ rest))) (prefix_is w rest all stop) ∙ ap (λ (xs : List ℕ). length xs) (front_taken w rest)

cut_is : (make : List ℕ → Token) (n : ℕ) (w rest : List ℕ) → n ≡ length w → cut make n (w ++ rest) ≡ (make w, rest)
cut_is make n w rest e = ap (λ m. cut make m (w ++ rest)) e ∙ ap (λ (xs : List ℕ). (make xs, drop (length w) (w ++ rest))) (front_taken w rest) ∙ ap (λ (xs : List ℕ). (make w, xs)) (front_dropped w rest)

-- one token, where it is known
one_token : (b : ℕ) (bs rest : List ℕ) (t : Token) (more : List Token) → after_gap (b ∷ bs) ≡ b ∷ bs → first_token b bs ≡ (t, rest) → Lexes rest more → Lexes (b ∷ bs) (t ∷ more)
one_token b bs rest t more gap found h = (b, bs, gap, ap (λ (x : Token × List ℕ). x.0) found, subst (λ (r : List ℕ). Lexes r more) (ap (λ (x : Token × List ℕ). x.1) (sym found)) h)

taken : {X : Type 0} (t : Bool) (x y : X) → t ≡ true → (if t then x else y) ≡ x
taken true x y e = refl
taken false x y e = absurd cc

passed : {X : Type 0} (t : Bool) (x y : X) → t ≡ false → (if t then x else y) ≡ y
passed true x y e = absurd cc
passed false x y e = refl

-- ---- names

word_token : (b : ℕ) (bs rest : List ℕ) → is_letter b ≡ true → AllByRecursion (λ (c : ℕ). is_name_byte c ≡ true) (b ∷ bs) → Breaks rest → first_token b (bs ++ rest) ≡ (Word (b ∷ bs), rest)
word_token b bs rest letter all br =
    taken (is_letter b) (cut Word (length (take_while is_name_byte (b ∷ (bs ++ rest)))) (b ∷ (bs ++ rest))) _ letter
    ∙ cut_is Word (length (take_while is_name_byte (b ∷ (bs ++ rest)))) (b ∷ bs) rest (while_is is_name_byte (b ∷ bs) rest all br)

pub prints_word : (w : List ℕ) (m : Option Limit) → first_is is_letter w ≡ true → AllByRecursion (λ (b : ℕ). is_name_byte b ≡ true) w → Prints w ((Word w, m) ∷ [])
prints_word [] m begins each rest more br h = let untrue : false ≡ true = begins in absurd cc
prints_word (b ∷ bs) m begins each rest more br h =
    one_token b (bs ++ rest) rest (Word (b ∷ bs)) more (solid b (bs ++ rest) (let high = letter_high b begins in omega arith)) (word_token b bs rest begins each br) h

pub prints_name : (w : List ℕ) (m : Option Limit) → IsNameText w → Prints w ((Word w, m) ∷ [])
prints_name w m n = prints_word w m n.begins n.each

-- ---- ints

-- digits that spell a number, and the number
pub record Spells (n : ℕ) (ds : List ℕ) : Type 0 where
  pub first : first_is is_digit ds ≡ true
  pub digits : AllByRecursion (λ (b : ℕ). is_digit b ≡ true) ds
  pub number : digits_from 0 ds ≡ n

digits_more : (a : ℕ) (ds : List ℕ) (d : ℕ) → digits_from a (ds ++ d ∷ []) ≡ 10 * digits_from a ds + (d - 48)
digits_more a [] d = refl
digits_more a (x ∷ xs) d = digits_more (10 * a + (x - 48)) xs d

spells_one : (n : ℕ) → n < 10 → Spells n ((48 + n) ∷ [])
spells_one n small =
    let digit : is_digit (48 + n) ≡ true = rw (le-leb 48 (48 + n) (omega arith), le-leb (48 + n) 57 (omega arith)) refl in
    record { first = digit; digits = (digit, tt); number = omega arith }

first_front : (ds more : List ℕ) → first_is is_digit ds ≡ true → first_is is_digit (ds ++ more) ≡ true
first_front [] more e = let untrue : false ≡ true = e in absurd cc
first_front (d ∷ ds) more e = e

spells_more : (n : ℕ) (ds : List ℕ) → 10 ≤ n → Spells (n / 10) ds → Spells n (ds ++ (48 + n % 10) ∷ [])
spells_more n ds large s =
    let small : n % 10 < 10 = omega arith in
    let digit : is_digit (48 + n % 10) ≡ true = rw (le-leb 48 (48 + n % 10) (omega arith), le-leb (48 + n % 10) 57 (omega arith)) refl in
    let front : digits_from 0 ds ≡ n / 10 = s.number in
    let whole = digits_more 0 ds (48 + n % 10) in
    record {
      first = first_front ds ((48 + n % 10) ∷ []) s.first;
      digits = all_joined (λ (b : ℕ). is_digit b ≡ true) ds ((48 + n % 10) ∷ []) s.digits (digit, tt);
      number = omega arith;
    }

pub decimal_spells : (n : ℕ) → n < 2 ^ 64 → Spells n (decimal n)
decimal_spells n small = decimal_by_steps Spells spells_one spells_more n small

or_second : (x y : Bool) → (x || y) ≡ false → y ≡ false
or_second true y e = absurd cc
or_second false y e = e

no_digit : (rest : List ℕ) → Breaks rest → first_is is_digit rest ≡ false
no_digit [] br = refl
no_digit (b ∷ bs) br = or_second (is_letter b) (is_digit b) br

int_token : (n b : ℕ) (bs rest : List ℕ) → Spells n (b ∷ bs) → Breaks rest → first_token b (bs ++ rest) ≡ (Int (b ∷ bs), rest)
int_token n b bs rest s br =
    passed (is_letter b) _ _ (digit_no_letter b s.first)
    ∙ taken (is_digit b) (cut Int (length (take_while is_digit (b ∷ (bs ++ rest)))) (b ∷ (bs ++ rest))) _ s.first
    ∙ cut_is Int (length (take_while is_digit (b ∷ (bs ++ rest)))) (b ∷ bs) rest (while_is is_digit (b ∷ bs) rest s.digits (no_digit rest br))

prints_digits : (n : ℕ) (ds : List ℕ) (m : Option Limit) → Spells n ds → Prints ds ((Int ds, m) ∷ [])
prints_digits n [] m s rest more br h = let untrue : false ≡ true = s.first in absurd cc
prints_digits n (b ∷ bs) m s rest more br h = one_token b (bs ++ rest) rest (Int (b ∷ bs)) more (solid b (bs ++ rest) (digit_range b s.first).0) (int_token n b bs rest s br) h

minus_token : (n : ℕ) (ds rest : List ℕ) → Spells n ds → Breaks rest → first_token 45 (ds ++ rest) ≡ (Int (45 ∷ ds), rest)
minus_token n ds rest s br =
    let front = while_is is_digit ds rest s.digits (no_digit rest br) in
    rw (first_front ds rest s.first) (cut_is Int (length (take_while is_digit (ds ++ rest)) + 1) (45 ∷ ds) rest (omega arith))

pub prints_int : (i : ℤ) (m : Option Limit) → FitsInt i → Prints (signed_decimal i) ((Int (signed_decimal i), m) ∷ [])
prints_int (pos n) m fits rest more br h = prints_digits n (decimal n) m (decimal_spells n (omega arith)) rest more br h
prints_int (negsuc n) m fits rest more br h =
    one_token 45 (decimal (suc n) ++ rest) rest (Int (45 ∷ decimal (suc n))) more refl (minus_token (suc n) (decimal (suc n)) rest (decimal_spells (suc n) (omega arith)) br) h

pub prints_label : (n : ℕ) (m : Option Limit) → n ≤ 15 → Prints (decimal n) ((Int (decimal n), m) ∷ [])
prints_label n m le = prints_digits n (decimal n) m (decimal_spells n (omega arith))

-- ---- texts

-- what a byte of a text is printed as is read as this byte
read_byte : (b : ℕ) (more : List ℕ) → text_at (escaped b ++ more) ≡ joined (Some b) (text_at more)
read_byte b more =
    elim (cases_eq b 34) [
      | inl e ↦ subst (λ (c : ℕ). text_at (escaped c ++ more) ≡ joined (Some c) (text_at more)) (sym e) refl
      | inr not_quote ↦ elim (cases_eq b 92) [
        | inl e ↦ subst (λ (c : ℕ). text_at (escaped c ++ more) ≡ joined (Some c) (text_at more)) (sym e) refl
        | inr not_back ↦ elim (cases_eq b 10) [
          | inl e ↦ subst (λ (c : ℕ). text_at (escaped c ++ more) ≡ joined (Some c) (text_at more)) (sym e) refl
          | inr not_line ↦ plain b more (ne_eqb b 34 not_quote) (ne_eqb b 92 not_back) (ne_eqb b 10 not_line)
        ]
      ]
    ]
  where
    plain : (b : ℕ) (more : List ℕ) → (b == 34) ≡ false → (b == 92) ≡ false → (b == 10) ≡ false → text_at (escaped b ++ more) ≡ joined (Some b) (text_at more)
    plain b more q k l = ap (λ (xs : List ℕ). text_at (xs ++ more)) (escaped_plain b q k l) ∙ text_plain b more q k l
      where
        escaped_plain : (b : ℕ) → (b == 34) ≡ false → (b == 92) ≡ false → (b == 10) ≡ false → escaped b ≡ b ∷ []
        escaped_plain b q k l = rw (q, k, l) refl

        text_plain : (b : ℕ) (more : List ℕ) → (b == 34) ≡ false → (b == 92) ≡ false → (b == 10) ≡ false → text_at (b ∷ more) ≡ joined (Some b) (text_at more)
        text_plain b more q k l = rw (q, l, k) refl

read_text : (t rest : List ℕ) → text_at (flat_map escaped t ++ (34 ∷ rest)) ≡ Some (t, rest)
read_text [] rest = refl
read_text (b ∷ t) rest =
    ap text_at (append_assoc (escaped b) (flat_map escaped t) (34 ∷ rest)) ∙ read_byte b (flat_map escaped t ++ (34 ∷ rest)) ∙ ap (joined (Some b)) (read_text t rest)

pub ends_text : (t : List ℕ) (m : Option Limit) → is_utf8 t ≡ true → Ends (quoted t) ((Text t, m) ∷ [])
ends_text t m utf8 rest more h =
    one_token 34 ((flat_map escaped t ++ (34 ∷ [])) ++ rest) rest (Text t) more refl
    (ap text_token (ap text_at (append_assoc (flat_map escaped t) (34 ∷ []) rest) ∙ read_text t rest) ∙ whole t rest utf8) h
  where
    whole : (t rest : List ℕ) → is_utf8 t ≡ true → text_token (Some (t, rest)) ≡ (Text t, rest)
    whole t rest e = rw e refl
