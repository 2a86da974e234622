use Rattle.std.proofs.Common.{◌≡◌, ◌≤◌, ◌≤ℤ◌, List, Bool, take}
use Rattle.std.specs.Int.RustNames.{unsigned_abs}
use Rattle.mig_sat.specs.Steps.{FollowsAll}
use Rattle.mig_maxsat.specs.Heaviest.{weight, magnitude}
use Rattle.mig_maxsat.specs.Losses.{most_from}
use Rattle.mig_maxsat.proofs.weighing.most.Given as goal

abbrev pub invariant-loop-var : goal.invariant-loop-var
invariant-loop-var l = record {
  bound : (m : List Bool) → FollowsAll m l.trail.steps → weight (take l.var l.weights) m ≤ℤ l.sum;
  small : unsigned_abs l.sum ≤ magnitude (take l.var l.weights);
  is : l.sum ≡ most_from l.trail.steps 0 (take l.var l.weights);
}
