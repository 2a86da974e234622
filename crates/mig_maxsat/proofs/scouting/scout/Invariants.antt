use Rattle.std.proofs.Common.{◌≡◌, ◌≤◌, length}
use Rattle.mig_sat.proofs.Measure.{work}
use Rattle.mig_maxsat.specs.Rivals.{IsFloor}
use Rattle.mig_maxsat.specs.Scouting.{IsReached}
use Rattle.mig_maxsat.proofs.scouting.scout.Given as goal

abbrev pub invariant-loop-agenda : goal.invariant-loop-agenda
invariant-loop-agenda l = record {
  size : l.trail.size ≡ l.problem.hard.vars;
  room : length l.trail.steps ≤ l.problem.hard.vars;
  reached : IsReached l.problem l.reached;
  floor : IsFloor l.reached;
}

abbrev pub decreases-loop-agenda : goal.decreases-loop-agenda
decreases-loop-agenda l = work l.problem.hard.vars l.trail.steps
