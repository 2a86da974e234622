-- Tokens, and the limits that they pass.
use Rattle.std.specs.Prelude.{Bool, false, List, [], ◌∷◌, Option, Some, None}
use Rattle.mig_tokens.specs.declared.token.Token.{Token}
use Rattle.mig_schema.specs.declared.limits.Limit.{Limit}

-- a token, and the limit that it passes
abbrev pub Marked : Type 0
Marked = Token × Option Limit

-- tokens that pass no limit
abbrev pub clean : List Token → List Marked
clean [] = []
clean (t ∷ ts) = (t, None) ∷ clean ts

-- the tokens alone
abbrev pub bare : List Marked → List Token
bare [] = []
bare (m ∷ ms) = m.0 ∷ bare ms

-- the first token, where there is one
abbrev pub head : List Token → Option Token
head [] = None
head (t ∷ ts) = Some t

-- whether there is a token, and it passes
abbrev pub is_at : (Token → Bool) → Option Token → Bool
is_at p None = false
is_at p (Some t) = p t

-- whether the first token passes
abbrev pub first_is : (Token → Bool) → List Token → Bool
first_is p ts = is_at p (head ts)
