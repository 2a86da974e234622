-- Where a token stands in its text.
use Rattle.std.specs.Prelude.{ℕ, zero, suc, ◌+◌, ◌-◌, ◌==◌, cond, List, [], ◌∷◌, length, take}
use Rattle.mig_tokens.specs.Bytes.{after_gap}
use Rattle.mig_tokens.specs.Tokens.{first_token}

-- what follows the token at the front
abbrev pub after_first : List ℕ → List ℕ
after_first [] = []
after_first (b ∷ bs) = (first_token b bs).1

-- what follows the first n tokens and the gap behind them, where the bytes begin with a token
unfoldable pub behind_tokens : ℕ → List ℕ → List ℕ
behind_tokens zero bytes = bytes
behind_tokens (suc n) bytes = behind_tokens n (after_gap (after_first bytes))

-- a line and a column, both from 1; columns are bytes
abbrev pub Place : Type 0
Place = ℕ × ℕ

-- the place behind this byte, which stands at this place
abbrev pub next_place : Place → ℕ → Place
next_place at b = cond (b == 10) (at.0 + 1, 1) (at.0, at.1 + 1)

-- the place behind these bytes, the first of which stands at this place
unfoldable pub place_from : Place → List ℕ → Place
place_from at [] = at
place_from at (b ∷ bs) = place_from (next_place at b) bs

-- the place of the token behind the first n, or of the end of the bytes
abbrev pub place : ℕ → List ℕ → Place
place n bytes = place_from (1, 1) (take (length bytes - length (behind_tokens n (after_gap bytes))) bytes)
