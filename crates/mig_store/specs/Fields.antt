-- The values that fields of records spell.
use Rattle.std.specs.Prelude.{ℕ, Bool, false, ◌&&◌, ◌==◌, nat_le, if◌then◌else◌, List, [], ◌∷◌, ◌++◌, length, Option, Some, None, option_map, codes, decimal}
use Rattle.std.specs.Fmt.{signed_decimal}
use Rattle.std.specs.List.{list_all}
use Rattle.std.specs.Str.{is_utf8}
use Rattle.mig_schema.specs.declared.tables.Kind.{Kind}
use Rattle.mig_schema.specs.declared.tables.Kind.TheVariants as kind
use Rattle.mig_schema.specs.declared.values.Value.{Value}
use Rattle.mig_schema.specs.declared.values.Value.TheVariants as value
use Rattle.mig_base.specs.Digits.{digits_from, is_digit, is_numeral}
use Rattle.mig_tokens.specs.Numbers.{int_of, magnitude, most_of}

-- one digit or more
abbrev pub are_digits : List ℕ → Bool
are_digits [] = false
are_digits (b ∷ bs) = is_digit b && list_all is_digit bs

-- the digits behind an optional minus sign
abbrev pub unsigned : List ℕ → List ℕ
unsigned [] = []
unsigned (b ∷ bs) = if b == 45 then bs else b ∷ bs

-- the int that a field spells: an optional minus sign and digits, in the range of i64
abbrev pub int_spelled : List ℕ → Option Value
int_spelled w = if are_digits (unsigned w) && nat_le (magnitude w) (most_of w) then Some (value.Int (int_of w)) else None

-- the text that a field spells: UTF-8 of at most 1,024 bytes
abbrev pub text_spelled : List ℕ → Option Value
text_spelled w = if nat_le (length w) 1024 && is_utf8 w then Some (value.Text w) else None

-- the number that digits spell, where it is below 2^64
abbrev pub number_below : List ℕ → Option ℕ
number_below ds = if nat_le (digits_from 0 ds) 18446744073709551615 then Some (digits_from 0 ds) else None

-- the key that a field spells: the sign # and a number below 2^64 without leading zeros
abbrev pub key_spelled : List ℕ → Option Value
key_spelled [] = None
key_spelled (b ∷ ds) = if (b == 35) && is_numeral ds then option_map value.Key (number_below ds) else None

-- the value of this kind that a field spells
abbrev pub value_spelled : Kind → List ℕ → Option Value
value_spelled kind.Int w = int_spelled w
value_spelled kind.Text w = text_spelled w
value_spelled kind.Key w = key_spelled w

-- the field that spells a value
abbrev pub value_text : Value → List ℕ
value_text (value.Int i) = signed_decimal i
value_text (value.Text t) = t
value_text (value.Key k) = codes "#" ++ decimal k
