-- Reading of single tokens, and of lists with commas.
use Rattle.std.specs.Prelude.{ℕ, Bool, false, cond, List, codes, Option, Some, None}
use Rattle.std.specs.Str.{bytes_eq}
use Rattle.mig_tokens.specs.declared.token.Token.{Token}
use Rattle.mig_tokens.specs.declared.token.Token.TheVariants.{Word, Int, Sign, End}
use Rattle.mig_schema.specs.declared.limits.Limit.{Limit}
use Rattle.mig_tokens.specs.Words.{is_reserved}
use Rattle.mig_tokens.specs.Forms.{Before, behind}
use Rattle.mig_tokens.specs.Limits.{first_of, name_mark}
use Rattle.mig_tokens.specs.Reading.{Read, ◌>>=◌, token_at, led_at}

-- ---- tokens

-- this word
abbrev pub reads_word : List ℕ → Token → Option (Unit {0})
reads_word w (Word v) = cond (bytes_eq v w) (Some tt) None
reads_word w _ = None

-- this sign
abbrev pub reads_sign : List ℕ → Token → Option (Unit {0})
reads_sign s (Sign v) = cond (bytes_eq v s) (Some tt) None
reads_sign s _ = None

-- a word that is not reserved
abbrev pub reads_name : Token → Option (List ℕ)
reads_name (Word v) = cond (is_reserved v) None (Some v)
reads_name _ = None

-- an int, as it is written
abbrev pub reads_int : Token → Option (List ℕ)
reads_int (Int v) = Some v
reads_int _ = None

-- the end of the text
abbrev pub reads_end : Token → Option (Unit {0})
reads_end End = Some tt
reads_end _ = None

-- whether the token is this word
abbrev pub begins_word : List ℕ → Token → Bool
begins_word w (Word v) = bytes_eq v w
begins_word w _ = false

-- whether the token is this sign
abbrev pub begins_sign : List ℕ → Token → Bool
begins_sign s (Sign v) = bytes_eq v s
begins_sign s _ = false

-- a reserved word, which may pass a limit
unfoldable pub word_at : List ℕ → Option Limit → List Token → Read (Unit {0})
word_at w mark ts = token_at (reads_word w) (λ u. mark) ts

-- a sign
unfoldable pub sign_at : List ℕ → List Token → Read (Unit {0})
sign_at s ts = token_at (reads_sign s) (λ u. None) ts

-- a name: a count's limit comes before that of its length
unfoldable pub name_at : Option Limit → List Token → Read (List ℕ)
name_at mark ts = token_at reads_name (λ v. first_of mark (name_mark v)) ts

-- the end of the text
unfoldable pub end_at : List Token → Read (Unit {0})
end_at ts = token_at reads_end (λ u. None) ts

-- ---- lists

-- behind an item
abbrev pub next : {A : Type 0} → (A → ℕ) → Before → A → Before
next takes s x = behind (takes x) s

-- an item behind a comma
unfoldable pub comma_at : {A : Type 0} → (Before → List Token → Read A) → Before → List Token → Read A
comma_at reads s ts = do
  c ← sign_at (codes ",") ts
  reads s c.1

-- item { "," item }
abbrev pub listed_at : {A : Type 0} → (A → ℕ) → (Before → List Token → Read A) → Before → List Token → Read (List A)
listed_at takes reads s = led_at reads (begins_sign (codes ",")) (comma_at reads) (next takes) s
