-- The number that digits spell grows with each digit.
use Rattle.std.proofs.Common.{◌≡◌, ℕ, ◌+◌, ◌-◌, ◌*◌, ◌≤◌, ◌<◌, nat_le, cond, List, [], ◌∷◌, length, get_or, drop, Some, None, sym, ap, ◌∙◌, arith}
use Rattle.std.proofs.lemmas.List.{drop_more}
use Rattle.std.proofs.lemmas.Bool.{lt-leb}
use Rattle.mig_base.specs.Digits.{digits_from}

pub grows : (n : ℕ) (ds : List ℕ) → n ≤ digits_from n ds
grows n [] = omega arith
grows n (b ∷ bs) = omega (arith, grows (10 * n + (b - 48)) bs)

-- a number that is too great after a digit is too great after all
pub is_past : (most value i : ℕ) (ds : List ℕ) → i < length ds → digits_from value (drop i ds) ≡ digits_from 0 ds → most < 10 * value + (get_or ds i 0 - 48)
    → None ≡ cond (nat_le (digits_from 0 ds) most) (Some (digits_from 0 ds)) None
is_past most value i ds lt is past =
    let more : digits_from (10 * value + (get_or ds i 0 - 48)) (drop (i + 1) ds) ≡ digits_from 0 ds = ap (digits_from value) (sym (drop_more ds i 0 lt)) ∙ is in
    let over : most < digits_from 0 ds = omega (arith, grows (10 * value + (get_or ds i 0 - 48)) (drop (i + 1) ds), more) in
    sym (ap (λ b. cond b (Some (digits_from 0 ds)) None) (lt-leb (digits_from 0 ds) most over))
