use Rattle.mig_sat.specs.Steps.{HasValuesBelow}
use Rattle.mig_sat.proofs.trail.Trail.next_free.Given as goal

abbrev pub invariant-loop-var : goal.invariant-loop-var
invariant-loop-var l = HasValuesBelow l.self.steps l.var
