use Rattle.std.proofs.Common.{ℕ, ◌<◌, get_or}
use Rattle.mig_sat.specs.declared.clauses.SatLit.{SatLit}
use Rattle.mig_sat.specs.Steps.{IsFalse}
use Rattle.mig_sat.proofs.judging.is_falsified.Given as goal

abbrev pub invariant-loop-lit : goal.invariant-loop-lit
invariant-loop-lit l = (k : ℕ) (d : SatLit) → k < l.lit-index → IsFalse l.trail.steps (get_or l.clause k d)
