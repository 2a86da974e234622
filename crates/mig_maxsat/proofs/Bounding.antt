-- Bounds that clauses' costs make lower, and what they refute.
use Rattle.std.proofs.Common.{◌≡◌, ℕ, ◌≤◌, ◌≤ℤ◌, ◌<ℤ◌, ◌+ℤ◌, ◌-ℤ◌, ℤ, pos, Bool, true, false, int_le, List, [], ◌∷◌, ◌++◌, length, take, drop, Some, refl, ap, ◌∙◌, arith}
use Rattle.std.specs.Prelude.{MatchBool}
use Rattle.std.proofs.lemmas.Int.{ints}
use Rattle.mig_sat.specs.declared.steps.Step.{Step}
use Rattle.mig_sat.specs.Models.{IsModel}
use Rattle.mig_sat.specs.Steps.{FollowsAll}
use Rattle.mig_sat.specs.Found.{IsUnfollowed}
use Rattle.mig_maxsat.specs.declared.weighted.Weighted.{Weighted}
use Rattle.mig_maxsat.specs.Heaviest.{weight, magnitude}
use Rattle.mig_maxsat.specs.Bounds.{IsCharged}
use Rattle.mig_maxsat.specs.Losses.{AreCharged, HasRoom, most_from}
use Rattle.mig_maxsat.specs.Rivals.{IsRival}
use Rattle.mig_maxsat.proofs.Absolute.{le_from, lt_from}

-- a list that is written back whole
pub written_back : (new old : List ℤ) → length new ≡ length old → take (length old) (new ++ drop (length new) old) ≡ new
written_back [] [] e = refl
written_back [] (y ∷ ys) e = absurd (omega (arith, e))
written_back (x ∷ xs) [] e = absurd (omega (arith, e))
written_back (x ∷ xs) (y ∷ ys) e = ap (λ t. x ∷ t) (written_back xs ys (omega (arith, e)))

-- one more clause is charged
pub charged_on : (p : Weighted) (steps : List Step) (ws new : List ℤ) (lost more sum : ℤ) → IsCharged p steps ws lost → length new ≡ length ws → magnitude new ≤ magnitude ws → ((m : List Bool) → IsModel p.hard m → FollowsAll m steps → (weight ws m +ℤ more) ≤ℤ weight new m) → sum ≤ℤ (lost +ℤ more) → IsCharged p steps new sum
charged_on p steps ws new lost more sum was sized small charged le = record {
  sized = sized ∙ was.sized;
  small = let before = was.small in omega (arith, small, before);
  bound = λ m is f. let before = was.bound m is f in let step = charged m is f in omega (arith, ints, before, step, le);
}

-- nothing lies above a bound that is no higher than the floor
no_room : (most floor lost wo wc : ℤ) → (most -ℤ floor) ≤ℤ lost → floor <ℤ wo → (wo +ℤ lost) ≤ℤ wc → wc ≤ℤ most → ⊥
no_room most floor lost wo wc a b c d = omega (arith, ints, a, b, c, d)

-- there is room where the bound is above the floor
room_above : (most floor lost most' : ℤ) → lost <ℤ (most -ℤ floor) → most ≡ most' → (floor +ℤ lost) <ℤ most'
room_above most floor lost most' lt e = omega (arith, ints, lt, e)

-- one of two, as the test says
either_way : (b : Bool) (P Q : Type 0) → (b ≡ true → P) → (b ≡ false → Q) → MatchBool b P Q
either_way true P Q this other = this refl
either_way false P Q this other = other refl

-- the test of the bound: no model above the floor follows the steps, or there is room for one
pub bound_tells : (p : Weighted) (steps : List Step) (numbers : List ℕ) (floor most lost : ℤ) (ws : List ℤ) → IsCharged p steps ws lost → AreCharged p.hard.clauses steps numbers p.weights (pos 0) ws lost → ((m : List Bool) → FollowsAll m steps → weight ws m ≤ℤ most) → most ≡ most_from steps 0 ws → MatchBool (int_le (most -ℤ floor) lost) (IsUnfollowed (IsRival p (Some floor)) steps) (HasRoom p (Some floor) numbers steps)
bound_tells p steps numbers floor most lost ws charged exact bound is =
    either_way (int_le (most -ℤ floor) lost) (IsUnfollowed (IsRival p (Some floor)) steps) (HasRoom p (Some floor) numbers steps)
    (λ t m rival f. no_room most floor lost (weight p.weights m) (weight ws m) (le_from (most -ℤ floor) lost t) rival.above (charged.bound m rival.model f) (bound m f))
    (λ t. record { weights = ws; lost = lost; charged = exact; above = room_above most floor lost (most_from steps 0 ws) (lt_from (most -ℤ floor) lost t) is })
