-- A token that is one thing is no other.
use Rattle.std.proofs.Common.{◌≡◌, ℕ, Bool, true, false, List, Option, Some, None, refl, sym, subst}
use Rattle.std.specs.Str.{bytes_eq}
use Rattle.std.proofs.lemmas.Slice.Eq.{bytes_eq-Decides}
use Rattle.mig_tokens.specs.declared.token.Token.{Token}
use Rattle.mig_tokens.specs.declared.token.Token.TheVariants.{Word, Int, Text, Sign, Bad, End}
use Rattle.mig_tokens.specs.Marked.{is_at}
use Rattle.mig_tokens.specs.Words.{is_reserved, IsName}
use Rattle.mig_tokens.specs.Pieces.{begins_word, begins_sign}

-- the next token doesn't begin such a thing
abbrev pub NotAt : (Token → Bool) → Option Token → Type 0
NotAt begins o = is_at begins o ≡ false

-- the next token is this sign
abbrev pub AtSign : List ℕ → Option Token → Type 0
AtSign s o = is_at (begins_sign s) o ≡ true

-- the next token is this word
abbrev pub AtWord : List ℕ → Option Token → Type 0
AtWord w o = is_at (begins_word w) o ≡ true

-- one word is no other
pub other_word : (a b : List ℕ) → bytes_eq a b ≡ false → (o : Option Token) → AtWord a o → NotAt (begins_word b) o
other_word a b e None h = refl
other_word a b e (Some (Word v)) h = subst (λ (w : List ℕ). bytes_eq w b ≡ false) (sym ((bytes_eq-Decides v a).0 h)) e
other_word a b e (Some (Int v)) h = refl
other_word a b e (Some (Text v)) h = refl
other_word a b e (Some (Sign v)) h = refl
other_word a b e (Some Bad) h = refl
other_word a b e (Some End) h = refl

-- one sign is no other
pub other_sign : (a b : List ℕ) → bytes_eq a b ≡ false → (o : Option Token) → AtSign a o → NotAt (begins_sign b) o
other_sign a b e None h = refl
other_sign a b e (Some (Word v)) h = refl
other_sign a b e (Some (Int v)) h = refl
other_sign a b e (Some (Text v)) h = refl
other_sign a b e (Some (Sign v)) h = subst (λ (w : List ℕ). bytes_eq w b ≡ false) (sym ((bytes_eq-Decides v a).0 h)) e
other_sign a b e (Some Bad) h = refl
other_sign a b e (Some End) h = refl

-- a word is no sign
pub word_no_sign : (w s : List ℕ) (o : Option Token) → AtWord w o → NotAt (begins_sign s) o
word_no_sign w s None h = refl
word_no_sign w s (Some (Word v)) h = refl
word_no_sign w s (Some (Int v)) h = refl
word_no_sign w s (Some (Text v)) h = refl
word_no_sign w s (Some (Sign v)) h = absurd cc
word_no_sign w s (Some Bad) h = refl
word_no_sign w s (Some End) h = refl

-- a sign is no word
pub sign_no_word : (s w : List ℕ) (o : Option Token) → AtSign s o → NotAt (begins_word w) o
sign_no_word s w None h = refl
sign_no_word s w (Some (Word v)) h = absurd cc
sign_no_word s w (Some (Int v)) h = refl
sign_no_word s w (Some (Text v)) h = refl
sign_no_word s w (Some (Sign v)) h = refl
sign_no_word s w (Some Bad) h = refl
sign_no_word s w (Some End) h = refl

-- a name is no reserved word
pub name_no_word : (w v : List ℕ) → is_reserved w ≡ true → IsName v → bytes_eq v w ≡ false
name_no_word w v r n = by_test (bytes_eq v w) refl
  where
    by_test : (b : Bool) → bytes_eq v w ≡ b → b ≡ false
    by_test false e = refl
    by_test true e =
        let same : v ≡ w = (bytes_eq-Decides v w).0 e in
        let other : is_reserved w ≡ false = subst (λ (u : List ℕ). is_reserved u ≡ false) same n in
        absurd cc
