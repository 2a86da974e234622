-- A text as tokens.
use Rattle.std.specs.Prelude.{◌≡◌, ℕ, ◌+◌, ◌&&◌, ◌==◌, nat_lt, if◌then◌else◌, List, [], ◌∷◌, Option, Some, None, length, take, drop}
use Rattle.std.specs.List.{take_while}
use Rattle.std.specs.Str.{is_utf8}
use Rattle.mig_tokens.specs.declared.token.Token.{Token}
use Rattle.mig_tokens.specs.declared.token.Token.TheVariants.{Word, Int, Text, Sign, Bad}
use Rattle.mig_base.specs.Digits.{is_digit}
use Rattle.mig_tokens.specs.Bytes.{is_letter, is_name_byte, first_is, sign_len, after_gap}

-- the byte that a backslash and this byte stand for
abbrev pub unescaped : ℕ → Option ℕ
unescaped b = if b == 34 then Some 34 else (if b == 92 then Some 92 else (if b == 110 then Some 10 else None))

-- a byte before the others of a text
abbrev pub joined : Option ℕ → Option (List ℕ × List ℕ) → Option (List ℕ × List ℕ)
joined None more = None
joined (Some b) None = None
joined (Some b) (Some x) = Some (b ∷ x.0, x.1)

-- What the bytes up to the closing quote say, and the bytes behind that quote. There is nothing where a line feed, an unknown escape or the end comes before it.
abbrev mutual
  pub text_at : List ℕ → Option (List ℕ × List ℕ)
  text_at [] = None
  text_at (b ∷ bs) = if b == 34 then Some ([], bs) else (if b == 10 then None else (if b == 92 then escape_at bs else joined (Some b) (text_at bs)))

  -- the same behind a backslash
  pub escape_at : List ℕ → Option (List ℕ × List ℕ)
  escape_at [] = None
  escape_at (b ∷ bs) = joined (unescaped b) (text_at bs)

-- A byte that begins no token. No text goes on with it, so that nothing behind it is read.
abbrev pub nothing : Token × List ℕ
nothing = (Bad, [])

-- a text between quotes, where it is UTF-8; else its opening quote begins no token
abbrev pub text_token : Option (List ℕ × List ℕ) → Token × List ℕ
text_token None = nothing
text_token (Some x) = if is_utf8 x.0 then (Text x.0, x.1) else nothing

-- the first n bytes as a token, and the bytes after it
abbrev pub cut : (List ℕ → Token) → ℕ → List ℕ → Token × List ℕ
cut make n bytes = (make (take n bytes), drop n bytes)

-- the token at the front, the longest that fits, and the bytes after it
abbrev pub first_token : ℕ → List ℕ → Token × List ℕ
first_token b bs =
    if is_letter b then cut Word (length (take_while is_name_byte (b ∷ bs))) (b ∷ bs)
    else (if is_digit b then cut Int (length (take_while is_digit (b ∷ bs))) (b ∷ bs)
    else (if (b == 45) && first_is is_digit bs then cut Int (length (take_while is_digit bs) + 1) (b ∷ bs)
    else (if b == 34 then text_token (text_at bs)
    else (if nat_lt 0 (sign_len b bs) then cut Sign (sign_len b bs) (b ∷ bs)
    else nothing))))

-- The bytes are these tokens: each is the first one behind the gap, and only a gap is left after the last.
abbrev pub Lexes : List ℕ → List Token → Type 0
Lexes bytes [] = after_gap bytes ≡ []
Lexes bytes (t ∷ ts) = (b : ℕ) × (bs : List ℕ) × (after_gap bytes ≡ b ∷ bs) × ((first_token b bs).0 ≡ t) × Lexes (first_token b bs).1 ts
