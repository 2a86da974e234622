-- The numbers that tokens spell.
use Rattle.std.specs.Prelude.{ℕ, Bool, false, not, ◌&&◌, ◌||◌, ◌==◌, nat_le, if◌then◌else◌, ℤ, pos, neg_ℤ, List, [], ◌∷◌}
use Rattle.mig_base.specs.Digits.{digits_from}

-- whether a minus sign stands first
abbrev pub is_negative : List ℕ → Bool
is_negative [] = false
is_negative (b ∷ bs) = b == 45

-- the number that an int spells, without its sign
abbrev pub magnitude : List ℕ → ℕ
magnitude [] = 0
magnitude (b ∷ bs) = if b == 45 then digits_from 0 bs else digits_from 0 (b ∷ bs)

-- the greatest magnitude that an i64 has under this sign
abbrev pub most_of : List ℕ → ℕ
most_of w = if is_negative w then 9223372036854775808 else 9223372036854775807

-- the number that a weight spells, where it is 1 to 100; 0 where it is less or more
abbrev pub weight_of : List ℕ → ℕ
weight_of w = if is_negative w then 0 else (if nat_le (magnitude w) 100 then magnitude w else 0)

-- whether an int is the label of a fresh key: 0 to 15, and -0 is 0
abbrev pub is_label : List ℕ → Bool
is_label w = nat_le (magnitude w) 15 && (not (is_negative w) || (magnitude w == 0))

-- the number that the label of a fresh key spells, where it is 0 to 15; else 0
abbrev pub label_of : List ℕ → ℕ
label_of w = if is_label w then magnitude w else 0

-- a number with its sign
abbrev pub signed : Bool → ℕ → ℤ
signed negative n = if negative then neg_ℤ (pos n) else pos n

-- the number that an int spells, where it is in the range of i64; else 0
abbrev pub int_of : List ℕ → ℤ
int_of w = if nat_le (magnitude w) (most_of w) then signed (is_negative w) (magnitude w) else pos 0
