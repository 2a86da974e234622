-- The words of a text, and the tokens that they are, each with its line.
use Rattle.std.specs.Prelude.{ℕ, ◌+◌, Bool, true, false, ◌&&◌, ◌||◌, ◌==◌, nat_le, nat_lt, if◌then◌else◌, List, [], ◌∷◌, ◌++◌, length, codes}
use Rattle.std.specs.List.{list_all}
use Rattle.std.specs.Str.{bytes_eq}
use Rattle.mig_base.specs.Digits.{digits_from, is_digit}
use Rattle.mig_dimacs.specs.declared.token.Token.{Token}
use Rattle.mig_dimacs.specs.declared.token.Token.TheVariants.{Problem, Plain, Weighted, Number, Other, End}
use Rattle.mig_dimacs.specs.declared.token.Piece.{Piece}
use Rattle.mig_dimacs.specs.declared.token.Spot.{Spot}
use Rattle.mig_dimacs.specs.declared.token.Spot.TheVariants.{Start, Inside, Comment}

-- a space, tab or carriage return; a line feed ends the line
abbrev pub is_blank : ℕ → Bool
is_blank b = (b == 32) || ((b == 9) || (b == 13))

-- the greatest absolute value that is read, that of a u64
abbrev pub most : ℕ
most = 18446744073709551615

-- digits as a number; anything else, and what is too great, fits nowhere
abbrev pub digits_token : Bool → List ℕ → Token
digits_token negative ds =
    if (nat_lt 0 (length ds) && list_all is_digit ds) && nat_le (digits_from 0 ds) most
    then Number (record { negative = negative; size = digits_from 0 ds }) else Other

-- a number, behind a minus sign or not
abbrev pub number_token : List ℕ → Token
number_token [] = Other
number_token (b ∷ bs) = if b == 45 then digits_token true bs else digits_token false (b ∷ bs)

-- the token that a word is
abbrev pub token_of : List ℕ → Token
token_of w =
    if bytes_eq w (codes "p") then Problem
    else (if bytes_eq w (codes "cnf") then Plain
    else (if bytes_eq w (codes "wcnf") then Weighted
    else number_token w))

-- the word that ended in line n, unless none had begun
abbrev pub ended : ℕ → List ℕ → List Piece
ended n [] = []
ended n (b ∷ bs) = record { line = n; token = token_of (b ∷ bs) } ∷ []

-- whether a comment begins or goes on: it goes from a `c` that is first in its line to the end of the line
abbrev pub in_comment : Spot → ℕ → Bool
in_comment Start b = b == 99
in_comment Inside b = false
in_comment Comment b = true

-- the tokens of what follows in line n, behind the beginning w of a word, and then the end of the text
abbrev pub pieces_from : Spot → ℕ → List ℕ → List ℕ → List Piece
pieces_from s n w [] = ended n w ++ record { line = n; token = End } ∷ []
pieces_from s n w (b ∷ bs) =
    if b == 10 then ended n w ++ pieces_from Start (n + 1) [] bs
    else (if in_comment s b then pieces_from Comment n [] bs
    else (if is_blank b then ended n w ++ pieces_from Inside n [] bs
    else pieces_from Inside n (w ++ b ∷ []) bs))

-- the tokens of a text, with lines from 1 on; the last one is its end
abbrev pub pieces_of : List ℕ → List Piece
pieces_of bytes = pieces_from Start 1 [] bytes
