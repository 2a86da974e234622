use Rattle.std.proofs.Common.{◌≡◌, ◌++◌, map, take}
use Rattle.mig_schema.specs.Joins.{tables_of}
use Rattle.mig_algebra.specs.Obligations.{not_case}
use Rattle.mig_obligations.proofs.answering.add_denied.Given as goal

abbrev pub invariant-loop-case : goal.invariant-loop-case
invariant-loop-case l = l.lits.items ≡ l.initial.lits.items ++ map (not_case (tables_of l.join)) (take l.case-index l.before)
