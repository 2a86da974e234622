use Rattle.std.proofs.Common.{◌≡◌, length}
use Rattle.mig_sat.specs.Steps.{turned_back}
use Rattle.mig_sat.proofs.trail.Trail.turn_back.Given as goal

abbrev pub invariant-loop-step : goal.invariant-loop-step
invariant-loop-step l = (l.self.size ≡ l.fn.self.size) × (turned_back l.self.steps ≡ turned_back l.fn.self.steps)

abbrev pub decreases-loop-step : goal.decreases-loop-step
decreases-loop-step l = length l.self.steps
