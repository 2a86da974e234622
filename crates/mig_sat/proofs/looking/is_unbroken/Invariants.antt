use Rattle.std.proofs.Common.{ℕ, ◌<◌, get_or, List, Any}
use Rattle.mig_sat.specs.declared.clauses.SatLit.{SatLit}
use Rattle.mig_sat.specs.Steps.{IsNotFalse}
use Rattle.mig_sat.proofs.looking.is_unbroken.Given as goal

abbrev pub invariant-loop-clause : goal.invariant-loop-clause
invariant-loop-clause l = (k : ℕ) (d : List SatLit) → k < l.clause-index → Any (IsNotFalse l.trail.steps) (get_or l.cnf.clauses k d)
