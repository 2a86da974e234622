-- The bytes of a certificate as pieces. Nothing is left out: layout counts.
use Rattle.std.specs.Prelude.{ℕ, if◌then◌else◌, List, [], ◌∷◌, ◌++◌}
use Rattle.mig_tokens.specs.declared.token.Token.{Token}
use Rattle.mig_tokens.specs.declared.token.Token.TheVariants.{Word, Int, Sign, End}
use Rattle.mig_tokens.specs.Bytes.{is_letter, is_name_byte, first_is}

-- letters, digits and underscores: a word where a digit isn't first
abbrev pub run : List ℕ → Token
run w = if first_is is_letter w then Word w else Int w

-- a letter, a digit or an underscore before pieces
abbrev pub joined : ℕ → List Token → List Token
joined b (Word v ∷ ts) = run (b ∷ v) ∷ ts
joined b (Int v ∷ ts) = run (b ∷ v) ∷ ts
joined b ts = run (b ∷ []) ∷ ts

-- the longest runs of letters, digits and underscores, and each other byte alone
abbrev pub pieces : List ℕ → List Token
pieces [] = []
pieces (b ∷ bs) = if is_name_byte b then joined b (pieces bs) else Sign (b ∷ []) ∷ pieces bs

-- the pieces, and behind them the end
abbrev pub pieces_to_end : List ℕ → List Token
pieces_to_end bytes = pieces bytes ++ End ∷ []
