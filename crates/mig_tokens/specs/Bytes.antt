-- The bytes that tokens and the gaps between them are made of.
use Rattle.std.specs.Prelude.{ℕ, Bool, false, ◌&&◌, ◌||◌, ◌==◌, nat_le, if◌then◌else◌, List, [], ◌∷◌, codes}
use Rattle.std.specs.List.{list_any}
use Rattle.mig_base.specs.Digits.{is_digit}

-- a to z, A to Z, or an underscore
abbrev pub is_letter : ℕ → Bool
is_letter b = (nat_le 97 b && nat_le b 122) || ((nat_le 65 b && nat_le b 90) || (b == 95))

-- what a name goes on with
abbrev pub is_name_byte : ℕ → Bool
is_name_byte b = is_letter b || is_digit b

-- a space, tab, carriage return or line feed
abbrev pub is_blank : ℕ → Bool
is_blank b = (b == 32) || ((b == 9) || ((b == 13) || (b == 10)))

-- whether the bytes begin with one that passes
abbrev pub first_is : (ℕ → Bool) → List ℕ → Bool
first_is p [] = false
first_is p (b ∷ bs) = p b

-- how many bytes a sign at the front takes, the longest that fits; 0 where there is none
abbrev pub sign_len : ℕ → List ℕ → ℕ
sign_len b bs =
    if list_any (λ s. s == b) (codes "{}(),;:.=") then 1
    else (if b == 60 then (if first_is (λ c. (c == 61) || (c == 62)) bs then 2 else 1)
    else (if b == 62 then (if first_is (λ c. c == 61) bs then 2 else 1)
    else (if (b == 45) && first_is (λ c. c == 62) bs then 2 else 0)))

-- what follows the blanks and comments at the front; a comment goes from # to a line feed or to the end
abbrev mutual
  pub after_gap : List ℕ → List ℕ
  after_gap [] = []
  after_gap (b ∷ bs) = if is_blank b then after_gap bs else (if b == 35 then after_comment bs else b ∷ bs)

  pub after_comment : List ℕ → List ℕ
  after_comment [] = []
  after_comment (b ∷ bs) = if b == 10 then after_gap bs else after_comment bs
