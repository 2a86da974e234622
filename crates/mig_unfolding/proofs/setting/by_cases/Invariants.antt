use Rattle.std.proofs.Common.{◌≡◌, ◌++◌, [], take, drop}
use Rattle.mig_unfolding.specs.Cases.{case_body}
use Rattle.mig_unfolding.specs.Unfolding.{by_cases}
use Rattle.mig_unfolding.proofs.setting.by_cases.Given as goal

abbrev pub invariant-loop-i : goal.invariant-loop-i
invariant-loop-i l = by_cases (case_body l.seeing.side l.seeing.stage l.seeing.join.now l.seeing.table l.seeing.var l.seeing.scope) l.kept l.wrote [] l.cases ≡ l.hosts ++ by_cases (case_body l.seeing.side l.seeing.stage l.seeing.join.now l.seeing.table l.seeing.var l.seeing.scope) l.kept l.wrote (take l.i l.cases) (drop l.i l.cases)
