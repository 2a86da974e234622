-- The tokens of a text: words are words, and texts are UTF-8.
use Rattle.std.proofs.Common.{◌≡◌, ℕ, ◌+◌, Bool, true, false, ◌&&◌, List, [], ◌∷◌, ◌++◌, length, take, Option, Some, None, refl, sym, ap, ◌∙◌, subst, ◌⊎◌, inl, inr}
use Rattle.std.specs.Prelude.{if◌then◌else◌, ◌==◌, nat_lt}
use Rattle.std.specs.List.{list_all, take_while, AllByRecursion}
use Rattle.std.specs.Str.{is_utf8}
use Rattle.std.proofs.lemmas.Bool.{and_from, cases_Bool, or_left, cond-true, cond-false}
use Rattle.std.proofs.lemmas.List.Sums.{take_while-cons}
use Rattle.mig_tokens.specs.declared.token.Token.{Token}
use Rattle.mig_tokens.specs.declared.token.Token.TheVariants.{Word, Int, Text, Sign, Bad, End}
use Rattle.mig_base.specs.Digits.{is_digit}
use Rattle.mig_tokens.specs.Bytes.{is_letter, is_name_byte, first_is, sign_len}
use Rattle.mig_tokens.specs.Tokens.{cut, text_at, text_token, first_token, Lexes}
use Rattle.mig_tokens.specs.Marked.{Marked, clean}
use Rattle.mig_tokens.specs.Forms.{Before, behind, numbered, led}
use Rattle.mig_syntax.proofs.Unmarked.{AreUnmarked}

-- ---- tokens

-- a word begins with a letter and goes on like a name
abbrev pub is_word : List ℕ → Bool
is_word w = first_is is_letter w && list_all is_name_byte w

-- what holds of a token that bytes spell
abbrev pub IsSound : Token → Type 0
IsSound (Word w) = is_word w ≡ true
IsSound (Text t) = is_utf8 t ≡ true
IsSound (Int w) = Unit {0}
IsSound (Sign s) = Unit {0}
IsSound Bad = Unit {0}
IsSound End = Unit {0}

-- the front of a list up to the first that fails passes
front-passes : (p : ℕ → Bool) (xs : List ℕ) → list_all p (take_while p xs) ≡ true
front-passes p [] = refl
front-passes p (x ∷ xs) = go (cases_Bool (p x)) (front-passes p xs)
  where
    go : (p x ≡ true) ⊎ (p x ≡ false) → list_all p (take_while p xs) ≡ true → list_all p (take_while p (x ∷ xs)) ≡ true
    go (inl t) next = ap (list_all p) (take_while-cons p x xs ∙ cond-true (p x) (x ∷ take_while p xs) [] t) ∙ and_from (p x) (list_all p (take_while p xs)) t next
    go (inr f) next = ap (list_all p) (take_while-cons p x xs ∙ cond-false (p x) (x ∷ take_while p xs) [] f)

-- as many bytes as the front has are the front
front-taken : (p : ℕ → Bool) (xs : List ℕ) → take (length (take_while p xs)) xs ≡ take_while p xs
front-taken p [] = refl
front-taken p (x ∷ xs) = go (cases_Bool (p x)) (front-taken p xs)
  where
    go : (p x ≡ true) ⊎ (p x ≡ false) → take (length (take_while p xs)) xs ≡ take_while p xs → take (length (take_while p (x ∷ xs))) (x ∷ xs) ≡ take_while p (x ∷ xs)
    go (inl t) next =
        let e = take_while-cons p x xs ∙ cond-true (p x) (x ∷ take_while p xs) [] t in
        ap (λ ys. take (length ys) (x ∷ xs)) e ∙ ap (λ ys. x ∷ ys) next ∙ sym e
    go (inr f) next = let e = take_while-cons p x xs ∙ cond-false (p x) (x ∷ take_while p xs) [] f in ap (λ ys. take (length ys) (x ∷ xs)) e ∙ sym e

-- a letter and what follows it like a name is a word
word-there : (b : ℕ) (bs : List ℕ) → is_letter b ≡ true → is_word (take (length (take_while is_name_byte (b ∷ bs))) (b ∷ bs)) ≡ true
word-there b bs t =
    let e = take_while-cons is_name_byte b bs ∙ cond-true (is_name_byte b) (b ∷ take_while is_name_byte bs) [] (or_left (is_letter b) (is_digit b) t) in
    ap is_word (front-taken is_name_byte (b ∷ bs)) ∙ and_from (first_is is_letter (take_while is_name_byte (b ∷ bs))) _ (ap (first_is is_letter) e ∙ t) (front-passes is_name_byte (b ∷ bs))

-- the first of these
pick : (l d m q s : Bool) (word int minus text sign bad : Token × List ℕ) → (l ≡ true → IsSound word.0) → IsSound int.0 → IsSound minus.0 → IsSound text.0 → IsSound sign.0 → IsSound bad.0
    → IsSound (if l then word else (if d then int else (if m then minus else (if q then text else (if s then sign else bad))))).0
pick true d m q s word int minus text sign bad w i n t g b = w refl
pick false true m q s word int minus text sign bad w i n t g b = i
pick false false true q s word int minus text sign bad w i n t g b = n
pick false false false true s word int minus text sign bad w i n t g b = t
pick false false false false true word int minus text sign bad w i n t g b = g
pick false false false false false word int minus text sign bad w i n t g b = b

-- the first of two where the test holds
either-sound : (b : Bool) (p q : Token × List ℕ) → (b ≡ true → IsSound p.0) → IsSound q.0 → IsSound (if b then p else q).0
either-sound true p q h k = h refl
either-sound false p q h k = k

text-sound : (o : Option (List ℕ × List ℕ)) → IsSound (text_token o).0
text-sound None = tt
text-sound (Some x) = either-sound (is_utf8 x.0) (Text x.0, x.1) (Bad, []) (λ h. h) tt

first-sound : (b : ℕ) (bs : List ℕ) → IsSound (first_token b bs).0
first-sound b bs =
    pick (is_letter b) (is_digit b) ((b == 45) && first_is is_digit bs) (b == 34) (nat_lt 0 (sign_len b bs))
    (cut Word (length (take_while is_name_byte (b ∷ bs))) (b ∷ bs)) (cut Int (length (take_while is_digit (b ∷ bs))) (b ∷ bs)) (cut Int (length (take_while is_digit bs) + 1) (b ∷ bs))
    (text_token (text_at bs)) (cut Sign (sign_len b bs) (b ∷ bs)) (Bad, []) (word-there b bs) tt tt (text-sound (text_at bs)) tt tt

pub all-sound : (bytes : List ℕ) (ts : List Token) → Lexes bytes ts → AllByRecursion IsSound ts
all-sound bytes [] h = tt
all-sound bytes (t ∷ ts) h = (subst IsSound h.3 (first-sound h.0 h.1), all-sound (first_token h.0 h.1).1 ts h.4)

-- ---- lists of marked tokens

-- each is sound, and passes no limit
abbrev pub AreSound : List Marked → Type 0
AreSound ms = AllByRecursion (λ (m : Marked). IsSound m.0 × (m.1 ≡ None)) ms

pub clean-sound : (ts : List Token) → AllByRecursion IsSound ts → AreSound (clean ts)
clean-sound [] h = tt
clean-sound (t ∷ ts) h = ((h.0, refl), clean-sound ts h.1)

pub none-marked : (ms : List Marked) → AreSound ms → AreUnmarked ms
none-marked [] h = tt
none-marked (m ∷ ms) h = (h.0.1, none-marked ms h.1)

pub with-end : (ts : List Token) → AllByRecursion IsSound ts → AllByRecursion IsSound (ts ++ End ∷ [])
with-end [] h = (tt, tt)
with-end (t ∷ ts) h = (h.0, with-end ts h.1)

pub front : (xs ys : List Marked) → AreSound (xs ++ ys) → AreSound xs
front [] ys h = tt
front (x ∷ xs) ys h = (h.0, front xs ys h.1)

pub back : (xs ys : List Marked) → AreSound (xs ++ ys) → AreSound ys
back [] ys h = h
back (x ∷ xs) ys h = back xs ys h.1

module _ {A : Type 0} (takes : A → ℕ) (spell : Before → A → List Marked) where
  -- what follows of the tokens of each item
  pub each-good : (Good : A → Type 0) → ((s : Before) (x : A) → AreSound (spell s x) → Good x) → (s : Before) (xs : List A) → AreSound (numbered takes spell s xs) → AllByRecursion Good xs
  each-good Good one s [] u = tt
  each-good Good one s (x ∷ xs) u =
      let more = numbered takes spell (behind (takes x) s) xs in
      (one s x (front (spell s x) more u), each-good Good one (behind (takes x) s) xs (back (spell s x) more u))

module _ {A : Type 0} (takes : A → ℕ) (first other : Before → A → List Marked) where
  pub led-good : (Good : A → Type 0) → ((s : Before) (x : A) → AreSound (first s x) → Good x) → ((s : Before) (x : A) → AreSound (other s x) → Good x)
      → (s : Before) (xs : List A) → AreSound (led takes first other s xs) → AllByRecursion Good xs
  led-good Good one two s [] u = tt
  led-good Good one two s (x ∷ xs) u =
      let more = numbered takes other (behind (takes x) s) xs in
      (one s x (front (first s x) more u), each-good takes other Good two (behind (takes x) s) xs (back (first s x) more u))
