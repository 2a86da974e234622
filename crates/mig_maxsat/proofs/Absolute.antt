-- Absolute values.
use Rattle.std.proofs.Common.{◌≡◌, ℕ, ◌+◌, ◌≤◌, ◌≤ℤ◌, ◌<ℤ◌, ◌+ℤ◌, neg_ℤ, ℤ, pos, negsuc, true, false, int_le, arith}
use Rattle.std.proofs.lemmas.Int.{ints}
use Rattle.std.specs.Int.RustNames.{unsigned_abs}

-- an integer is no more than its absolute value
pub le_abs : (z : ℤ) → z ≤ℤ pos (unsigned_abs z)
le_abs (pos n) = omega (arith, ints)
le_abs (negsuc n) = omega (arith, ints)

-- and no less than the opposite of it
pub ge_abs : (z : ℤ) → neg_ℤ (pos (unsigned_abs z)) ≤ℤ z
ge_abs (pos n) = omega (arith, ints)
ge_abs (negsuc n) = omega (arith, ints)

-- an integer between n and its opposite
pub abs_le : (z : ℤ) (n : ℕ) → z ≤ℤ pos n → neg_ℤ (pos n) ≤ℤ z → unsigned_abs z ≤ n
abs_le (pos k) n most least = omega (arith, ints, most)
abs_le (negsuc k) n most least = omega (arith, ints, least)

-- the absolute value of a sum
pub abs_sum : (a b : ℤ) (m n : ℕ) → unsigned_abs a ≤ m → unsigned_abs b ≤ n → unsigned_abs (a +ℤ b) ≤ m + n
abs_sum a b m n ha hb =
    let a_le = le_abs a in
    let a_ge = ge_abs a in
    let b_le = le_abs b in
    let b_ge = ge_abs b in
    abs_le (a +ℤ b) (m + n) (omega (arith, ints, a_le, b_le, ha, hb)) (omega (arith, ints, a_ge, b_ge, ha, hb))

-- what is negative, and stays so or becomes 0 by an addition, has become smaller
pub abs_raised : (w k : ℤ) → pos 0 ≤ℤ k → (w +ℤ k) ≤ℤ pos 0 → unsigned_abs (w +ℤ k) ≤ unsigned_abs w
abs_raised w k least most =
    let ge = ge_abs w in
    abs_le (w +ℤ k) (unsigned_abs w) (omega (arith, ints, most)) (omega (arith, ints, ge, least))

-- what the test says
pub le_from : (a b : ℤ) → int_le a b ≡ true → a ≤ℤ b
le_from a b t = grind (arith, ints)

-- and where it fails
pub lt_from : (a b : ℤ) → int_le a b ≡ false → b <ℤ a
lt_from a b t = grind (arith, ints)
