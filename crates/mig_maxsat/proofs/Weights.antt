-- What models weigh: by the first variables, at most, and where weights become heavier.
use Rattle.std.proofs.Common.{◌≡◌, ℕ, ◌+◌, ◌<◌, ◌≤◌, ◌≤ℤ◌, ◌+ℤ◌, ◌-ℤ◌, ◌-◌, ℤ, pos, Bool, true, false, if◌then◌else◌, List, [], ◌∷◌, length, take, get_or, set, refl, ap, sym, ◌∙◌, arith, suc, zero}
use Rattle.std.proofs.lemmas.Int.{ints, fits_signed_from_abs}
use Rattle.std.proofs.Common.{◌^◌, w64, subst}
use Rattle.std.specs.Int.RustNames.{FitsSigned}
use Rattle.std.proofs.lemmas.Bool.{false≢true}
use Rattle.std.proofs.Math.Seq.{take-nil}
use Rattle.std.specs.Int.RustNames.{unsigned_abs}
use Rattle.mig_sat.specs.declared.steps.Step.{Step}
use Rattle.mig_sat.specs.Models.{value_of}
use Rattle.mig_sat.specs.Steps.{value_at, FollowsAll}
use Rattle.mig_sat.proofs.Following.{value_followed}
use Rattle.mig_maxsat.specs.Heaviest.{weight, magnitude}
use Rattle.mig_maxsat.specs.Bounds.{IsMost, weight_of}
use Rattle.mig_maxsat.proofs.Absolute.{abs_sum, abs_le, le_abs, ge_abs}

-- no model weighs more than the absolute values, nor less than their opposite
pub weight_small : (ws : List ℤ) (m : List Bool) → unsigned_abs (weight ws m) ≤ magnitude ws
weight_small [] m = omega arith
weight_small (w ∷ ws) [] = omega arith
weight_small (w ∷ ws) (true ∷ m) = abs_sum w (weight ws m) (unsigned_abs w) (magnitude ws) (omega arith) (weight_small ws m)
weight_small (w ∷ ws) (false ∷ m) = abs_sum (pos 0) (weight ws m) (unsigned_abs w) (magnitude ws) (omega arith) (weight_small ws m)

-- the first weights have no greater absolute values
pub magnitude_take : (k : ℕ) (ws : List ℤ) → magnitude (take k ws) ≤ magnitude ws
magnitude_take k [] = rw (take-nil k) (omega arith)
magnitude_take zero (w ∷ ws) = omega arith
magnitude_take (suc k) (w ∷ ws) = let h = magnitude_take k ws in omega (arith, h)

-- one more weight
pub weight_more : (ws : List ℤ) (m : List Bool) (i : ℕ) (d : ℤ) → i < length ws → weight (take (suc i) ws) m ≡ weight (take i ws) m +ℤ (if value_of m i then get_or ws i d else pos 0)
weight_more [] m i d lt = absurd (omega (arith, lt))
weight_more (w ∷ ws) [] zero d lt = refl
weight_more (w ∷ ws) (b ∷ m) zero d lt = omega (arith, ints)
weight_more (w ∷ ws) [] (suc i) d lt = refl
weight_more (w ∷ ws) (b ∷ m) (suc i) d lt = let h = weight_more ws m i d (omega (arith, lt)) in omega (arith, ints, h)

-- one more absolute value
pub magnitude_more : (ws : List ℤ) (i : ℕ) (d : ℤ) → i < length ws → magnitude (take (suc i) ws) ≡ magnitude (take i ws) + unsigned_abs (get_or ws i d)
magnitude_more [] i d lt = absurd (omega (arith, lt))
magnitude_more (w ∷ ws) zero d lt = omega arith
magnitude_more (w ∷ ws) (suc i) d lt = let h = magnitude_more ws i d (omega (arith, lt)) in omega (arith, h)

-- one weight is no greater than all
pub magnitude_at : (ws : List ℤ) (i : ℕ) (d : ℤ) → i < length ws → unsigned_abs (get_or ws i d) ≤ magnitude ws
magnitude_at [] i d lt = absurd (omega (arith, lt))
magnitude_at (w ∷ ws) zero d lt = omega arith
magnitude_at (w ∷ ws) (suc i) d lt = let h = magnitude_at ws i d (omega (arith, lt)) in omega (arith, h)

-- a weight in place of a greater one
pub magnitude_set : (ws : List ℤ) (i : ℕ) (x d : ℤ) → i < length ws → unsigned_abs x ≤ unsigned_abs (get_or ws i d) → magnitude (set ws i x) ≤ magnitude ws
magnitude_set [] i x d lt le = absurd (omega (arith, lt))
magnitude_set (w ∷ ws) zero x d lt le = omega (arith, le)
magnitude_set (w ∷ ws) (suc i) x d lt le = let h = magnitude_set ws i x d (omega (arith, lt)) le in omega (arith, h)

-- one more variable weighs no more than the most that it can
pub most_more : (ws : List ℤ) (m : List Bool) (steps : List Step) (i : ℕ) (d sum most : ℤ) → i < length ws → IsMost (value_at i steps) (get_or ws i d) most → FollowsAll m steps → weight (take i ws) m ≤ℤ sum → weight (take (suc i) ws) m ≤ℤ (sum +ℤ most)
most_more ws m steps i d sum most lt is f le =
    let more = weight_more ws m i d lt in
    let here = is.bound (value_of m i) (λ c e. value_followed m steps i c f e) in
    omega (arith, ints, more, here, le)

-- where no weight is lighter, no model is
pub no_lighter : (old new : List ℤ) (m : List Bool) → length new ≡ length old → ((v : ℕ) → weight_of old v ≤ℤ weight_of new v) → weight old m ≤ℤ weight new m
no_lighter [] [] m e h = omega (arith, ints)
no_lighter [] (x ∷ xs) m e h = absurd (omega (arith, e))
no_lighter (w ∷ ws) [] m e h = absurd (omega (arith, e))
no_lighter (w ∷ ws) (x ∷ xs) [] e h = omega (arith, ints)
no_lighter (w ∷ ws) (x ∷ xs) (true ∷ m) e h =
    let here = h 0 in
    let rest = no_lighter ws xs m (omega (arith, e)) (λ v. h (suc v)) in
    omega (arith, ints, here, rest)
no_lighter (w ∷ ws) (x ∷ xs) (false ∷ m) e h =
    let rest = no_lighter ws xs m (omega (arith, e)) (λ v. h (suc v)) in
    omega (arith, ints, rest)

-- a model is heavier by k where one of its variables is and no weight is lighter
pub heavier_at : (old new : List ℤ) (m : List Bool) (v : ℕ) (k : ℤ) → length new ≡ length old → ((u : ℕ) → weight_of old u ≤ℤ weight_of new u) → v < length old → value_of m v ≡ true → (weight_of old v +ℤ k) ≤ℤ weight_of new v → (weight old m +ℤ k) ≤ℤ weight new m
heavier_at [] new m v k e h lt is at = absurd (omega (arith, lt))
heavier_at (w ∷ ws) [] m v k e h lt is at = absurd (omega (arith, e))
heavier_at (w ∷ ws) (x ∷ xs) [] zero k e h lt is at = absurd (false≢true is)
heavier_at (w ∷ ws) (x ∷ xs) [] (suc v) k e h lt is at = absurd (false≢true is)
heavier_at (w ∷ ws) (x ∷ xs) (true ∷ m) zero k e h lt is at =
    let rest = no_lighter ws xs m (omega (arith, e)) (λ u. h (suc u)) in
    omega (arith, ints, at, rest)
heavier_at (w ∷ ws) (x ∷ xs) (false ∷ m) zero k e h lt is at = absurd (false≢true is)
heavier_at (w ∷ ws) (x ∷ xs) (true ∷ m) (suc v) k e h lt is at =
    let here = h 0 in
    let rest = heavier_at ws xs m v k (omega (arith, e)) (λ u. h (suc u)) (omega (arith, lt)) is at in
    omega (arith, ints, here, rest)
heavier_at (w ∷ ws) (x ∷ xs) (false ∷ m) (suc v) k e h lt is at =
    let rest = heavier_at ws xs m v k (omega (arith, e)) (λ u. h (suc u)) (omega (arith, lt)) is at in
    omega (arith, ints, rest)

-- the next place, as code counts it
pub next_is : (i : ℕ) → suc i ≡ i + 1
next_is i = omega arith

-- what is smaller than 2^62 fits
pub fits_small : (z : ℤ) → unsigned_abs z < 2 ^ 62 → FitsSigned w64 z
fits_small z h = fits_signed_from_abs w64 z (omega (arith, h))

-- the weight of a model by one more variable, as a sum that fits
pub counted_on : (ws : List ℤ) (m : List Bool) (i : ℕ) (s r t : ℤ) → i < length ws → magnitude ws < 2 ^ 62 → s ≡ weight (take i ws) m → r ≡ (if value_of m i then get_or ws i (pos 0) else pos 0) → t ≡ s +ℤ r → (t ≡ weight (take (i + 1) ws) m) × FitsSigned w64 t
counted_on ws m i s r t lt fits se re te =
    let more = weight_more ws m i (pos 0) lt in
    let is : t ≡ weight (take (suc i) ws) m = te ∙ (ap (λ x. x +ℤ r) se ∙ (ap (λ x. weight (take i ws) m +ℤ x) re ∙ sym more)) in
    let small = weight_small (take (suc i) ws) m in
    let front = magnitude_take (suc i) ws in
    (subst (λ k. t ≡ weight (take k ws) m) (next_is i) is, subst (FitsSigned w64) (sym is) (fits_small (weight (take (suc i) ws) m) (omega (arith, small, front, fits))))

-- the bound by one more variable, as a sum that fits
pub most_on : (ws : List ℤ) (steps : List Step) (i : ℕ) (s r t : ℤ) → i < length ws → magnitude ws < 2 ^ 62 → IsMost (value_at i steps) (get_or ws i (pos 0)) r → ((m : List Bool) → FollowsAll m steps → weight (take i ws) m ≤ℤ s) → unsigned_abs s ≤ magnitude (take i ws) → t ≡ s +ℤ r → ((m : List Bool) → FollowsAll m steps → weight (take (i + 1) ws) m ≤ℤ t) × (unsigned_abs t ≤ magnitude (take (i + 1) ws)) × FitsSigned w64 t
most_on ws steps i s r t lt fits is bound small te =
    let more = magnitude_more ws i (pos 0) lt in
    let front = magnitude_take (suc i) ws in
    let r_small = is.small in
    let sum = abs_sum s r (magnitude (take i ws)) (unsigned_abs (get_or ws i (pos 0))) small r_small in
    let t_small : unsigned_abs t ≤ magnitude (take (suc i) ws) = subst (λ x. unsigned_abs x ≤ magnitude (take (suc i) ws)) (sym te) (omega (arith, sum, more)) in (
      (λ m f. let step = most_more ws m steps i (pos 0) s r lt is f (bound m f) in subst (λ k. weight (take k ws) m ≤ℤ t) (next_is i) (subst (λ x. weight (take (suc i) ws) m ≤ℤ x) (sym te) step)),
      subst (λ k. unsigned_abs t ≤ magnitude (take k ws)) (next_is i) t_small,
      fits_small t (omega (arith, t_small, front, fits)),
    )

-- a weight that is negative, turned
pub turned_fits : (ws : List ℤ) (v : ℕ) → v < length ws → magnitude ws < 2 ^ 62 → FitsSigned w64 (pos 0 -ℤ get_or ws v (pos 0))
turned_fits ws v lt fits =
    let small = magnitude_at ws v (pos 0) lt in
    let le = le_abs (get_or ws v (pos 0)) in
    let ge = ge_abs (get_or ws v (pos 0)) in
    fits_small (pos 0 -ℤ get_or ws v (pos 0)) (omega (arith, abs_le (pos 0 -ℤ get_or ws v (pos 0)) (unsigned_abs (get_or ws v (pos 0))) (omega (arith, ints, ge)) (omega (arith, ints, le)), small, fits))

-- a weight and a cost fit
pub cost_fits : (ws : List ℤ) (v : ℕ) (cost : ℤ) → v < length ws → magnitude ws < 2 ^ 62 → pos 0 ≤ℤ cost → cost ≤ℤ pos (2 ^ 62) → FitsSigned w64 (get_or ws v (pos 0) +ℤ cost)
cost_fits ws v cost lt fits least most =
    let small = magnitude_at ws v (pos 0) lt in
    let le = le_abs (get_or ws v (pos 0)) in
    let ge = ge_abs (get_or ws v (pos 0)) in
    fits_signed_from_abs w64 (get_or ws v (pos 0) +ℤ cost) (omega (arith, abs_le (get_or ws v (pos 0) +ℤ cost) (2 ^ 62 + 2 ^ 62 - 1) (omega (arith, ints, le, small, fits, most)) (omega (arith, ints, ge, small, fits, least))))

-- a weight below 2^62 in size, less another that is no greater than that
pub less_fits : (a b : ℤ) → unsigned_abs a < 2 ^ 62 → unsigned_abs b ≤ 2 ^ 62 → FitsSigned w64 (a -ℤ b)
less_fits a b ha hb =
    let a_le = le_abs a in
    let a_ge = ge_abs a in
    let b_le = le_abs b in
    let b_ge = ge_abs b in
    fits_signed_from_abs w64 (a -ℤ b) (omega (arith, abs_le (a -ℤ b) (unsigned_abs a + unsigned_abs b) (omega (arith, ints, a_le, b_ge)) (omega (arith, ints, a_ge, b_le)), ha, hb))

-- one more absolute value, as code counts it
pub magnitude_on : (ws : List ℤ) (i : ℕ) (d : ℤ) → i < length ws → magnitude (take (i + 1) ws) ≡ magnitude (take i ws) + unsigned_abs (get_or ws i d)
magnitude_on ws i d lt = subst (λ k. magnitude (take k ws) ≡ magnitude (take i ws) + unsigned_abs (get_or ws i d)) (next_is i) (magnitude_more ws i d lt)
