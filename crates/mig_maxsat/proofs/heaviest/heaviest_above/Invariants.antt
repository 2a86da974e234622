use Rattle.std.proofs.Common.{◌≡◌, ◌≤◌, length}
use Rattle.mig_sat.specs.Steps.{IsRight}
use Rattle.mig_sat.proofs.Heeding.{IsHeeded}
use Rattle.mig_sat.proofs.Measure.{work}
use Rattle.mig_maxsat.specs.Rivals.{IsFloor, IsRival, IsHeld}
use Rattle.mig_maxsat.proofs.heaviest.heaviest_above.Given as goal

abbrev pub invariant-loop-held : goal.invariant-loop-held
invariant-loop-held l = record {
  size : l.trail.size ≡ l.problem.hard.vars;
  room : length l.trail.steps ≤ l.problem.hard.vars;
  right : IsRight l.problem.hard.vars (IsRival l.problem l.held.floor) l.trail.steps;
  kept : IsHeld l.problem l.fn.floor l.held;
  floor : IsFloor l.held.floor;
  heeded : IsHeeded l.problem.hard l.agenda l.trail.steps;
}

abbrev pub decreases-loop-held : goal.decreases-loop-held
decreases-loop-held l = work l.problem.hard.vars l.trail.steps
