-- A search ends: whatever it does about what it finds leaves less to do.
use Rattle.std.proofs.Common.{◌≡◌, ℕ, ◌+◌, ◌-◌, ◌*◌, ◌^◌, ◌<◌, ◌≤◌, Bool, true, false, cond, List, [], ◌∷◌, length, Some, refl, ◌∙◌, arith, inl, inr, suc, zero, lit<}
use Rattle.std.proofs.Math.Nat.{pow-suc, mul-le-mul_right}
use Rattle.std.proofs.lemmas.Nat.{pow-add}
use Rattle.std.proofs.lemmas.Bool.{cases_Bool}
use Rattle.std.proofs.lemmas.Option.{same_Some, none-some}
use Rattle.mig_sat.specs.declared.steps.Step.{Step}
use Rattle.mig_sat.specs.Steps.{turned, turned_back}

-- the steps as digits in base 3, where a choice is 1 and any other step 2
abbrev pub digits : List Step → ℕ
digits [] = 0
digits (s ∷ older) = 3 * digits older + (cond s.chosen 1 2)

-- the number with n digits that begins with those of the steps
abbrev pub reach : ℕ → List Step → ℕ
reach n steps = digits steps * 3 ^ (n - length steps)

-- what is left to do over n variables
abbrev pub work : ℕ → List Step → ℕ
work n steps = 3 ^ n - reach n steps

pub power_pos : (e : ℕ) → 0 < 3 ^ e
power_pos zero = lit< tt
power_pos (suc e) = rw (pow-suc 3 e) (omega (arith, power_pos e))

pub weight_pos : (b : Bool) → 1 ≤ cond b 1 2
weight_pos true = omega arith
weight_pos false = omega arith

pub weight_le : (b : Bool) → cond b 1 2 ≤ 2
weight_le true = omega arith
weight_le false = omega arith

-- the digits of k steps are below 3 ^ k
pub digits-lt : (steps : List Step) → digits steps + 1 ≤ 3 ^ length steps
digits-lt [] = omega arith
digits-lt (s ∷ older) = rw (pow-suc 3 (length older)) (omega (arith, digits-lt older, weight_le s.chosen))

-- with e digits to come
pub reach-lt : (steps : List Step) (n e : ℕ) → length steps + e ≡ n → digits steps * 3 ^ e < 3 ^ n
reach-lt steps n e h =
    let le : (digits steps + 1) * 3 ^ e ≤ 3 ^ length steps * 3 ^ e = mul-le-mul_right (3 ^ e) (digits-lt steps) in
    rw (← h, pow-add 3 (length steps) e) (omega (arith, le, power_pos e))

-- one more step reaches further
pub reach-push : (s : Step) (older : List Step) (e : ℕ) → digits older * 3 ^ (suc e) + 1 ≤ digits (s ∷ older) * 3 ^ e
reach-push s older e =
    let more : 1 * 3 ^ e ≤ (cond s.chosen 1 2) * 3 ^ e = mul-le-mul_right (3 ^ e) (weight_pos s.chosen) in
    rw (pow-suc 3 e) (omega (arith, more, power_pos e))

-- one more step leaves less to do
pub work-push : (n : ℕ) (s : Step) (older : List Step) → length older < n → work n (s ∷ older) < work n older
work-push n s older h =
    let e = n - suc (length older) in
    let e_is : n - length older ≡ suc (n - suc (length older)) = omega arith in
    let below = reach-lt older n (n - length older) (omega arith) in
    let further = reach-push s older (n - suc (length older)) in
    let below' : digits older * 3 ^ suc (n - suc (length older)) < 3 ^ n = rw e_is at below in
    rw e_is (omega (arith, below', further))

pub reach_older : (s : Step) (older new : List Step) (e f : ℕ) → s.chosen ≡ false → (digits older + 1) * 3 ^ suc e ≤ digits new * 3 ^ f → (digits (s ∷ older) + 1) * 3 ^ e ≤ digits new * 3 ^ f
reach_older s older new e f forced h =
    let h' : (digits older + 1) * (3 ^ e * 3) ≤ digits new * 3 ^ f = rw (pow-suc 3 e) at h in
    rw forced (omega (arith, h'))

-- the digits of the steps, one more, and then zeros, reach no further than the steps with the newest choice turned
pub reach-turned : (steps new : List Step) (e : ℕ) → turned_back steps ≡ Some new → (f : ℕ) × (length new + f ≡ length steps + e) × ((digits steps + 1) * 3 ^ e ≤ digits new * 3 ^ f)
reach-turned [] new e h = absurd (none-some new h)
reach-turned (s ∷ older) new e h = elim (cases_Bool s.chosen) [
  | inl chosen ↦
      let new_is : turned s ∷ older ≡ new = same_Some (turned s ∷ older) new (rw chosen at h) in
      (e, rw (← new_is) refl, rw (← new_is, chosen) (omega arith))
  | inr forced ↦
      let older_reach = reach-turned older new (suc e) (rw forced at h) in
      (older_reach.0, older_reach.1 ∙ omega arith, reach_older s older new e older_reach.0 forced older_reach.2)
]

-- turning back leaves less to do
pub work-turned : (n : ℕ) (steps new : List Step) → length steps ≤ n → turned_back steps ≡ Some new → (length new ≤ n) × (work n new < work n steps)
work-turned n steps new h e =
    let t = reach-turned steps new (n - length steps) e in
    let f = t.0 in
    let f_is : n - length new ≡ t.0 = omega (arith, t.1) in
    let here = reach-lt steps n (n - length steps) (omega arith) in
    let there : (digits steps + 1) * 3 ^ (n - length steps) ≤ digits new * 3 ^ t.0 = t.2 in
    (omega (arith, t.1), rw f_is (omega (arith, here, there, power_pos (n - length steps))))
