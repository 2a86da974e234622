-- Words that begin with a dash, and words that are numbers.
use Rattle.std.specs.Prelude.{ℕ, Bool, false, ◌&&◌, ◌==◌, nat_le, List, [], ◌∷◌}
use Rattle.mig_base.specs.Digits.{digits_from, is_numeral}

-- whether a word begins with a dash
abbrev pub is_dashed : List ℕ → Bool
is_dashed [] = false
is_dashed (b ∷ bs) = b == 45

-- the number that decimal digits spell
abbrev pub number_of : List ℕ → ℕ
number_of w = digits_from 0 w

-- whether a word is a number from `least` to `most`
abbrev pub is_within : ℕ → ℕ → List ℕ → Bool
is_within least most w = is_numeral w && (nat_le least (number_of w) && nat_le (number_of w) most)
