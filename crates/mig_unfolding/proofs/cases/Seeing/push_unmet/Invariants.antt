use Rattle.std.proofs.Common.{◌≡◌, ◌++◌, take}
use Rattle.mig_unfolding.specs.Cases.{case_body, unmet}
use Rattle.mig_unfolding.proofs.cases.Seeing.push_unmet.Given as goal

abbrev pub invariant-loop-case : goal.invariant-loop-case
invariant-loop-case l = l.lits ≡ l.initial.lits ++ unmet (case_body l.self.side l.self.stage l.self.join.now l.self.table l.self.var l.self.scope) (take l.case-index l.cases)
