use Rattle.std.proofs.Common.{◌≡◌, ◌≤◌, length}
use Rattle.mig_sat.specs.Models.{IsModel}
use Rattle.mig_sat.specs.Steps.{IsRight}
use Rattle.mig_sat.proofs.Heeding.{IsHeeded}
use Rattle.mig_sat.proofs.Measure.{work}
use Rattle.mig_sat.proofs.solving.solve.Given as goal

abbrev pub invariant-loop-trail : goal.invariant-loop-trail
invariant-loop-trail l = record {
  size : l.trail.size ≡ l.cnf.vars;
  room : length l.trail.steps ≤ l.cnf.vars;
  right : IsRight l.cnf.vars (IsModel l.cnf) l.trail.steps;
  heeded : IsHeeded l.cnf l.agenda l.trail.steps;
}

abbrev pub decreases-loop-trail : goal.decreases-loop-trail
decreases-loop-trail l = work l.cnf.vars l.trail.steps
