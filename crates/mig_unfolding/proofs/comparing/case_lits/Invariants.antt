use Rattle.std.proofs.Common.{◌≡◌, map, take}
use Rattle.mig_schema.specs.Joins.{tables_of}
use Rattle.mig_obligations.specs.Forming.{cmp_lit}
use Rattle.mig_unfolding.proofs.comparing.case_lits.Given as goal

abbrev pub invariant-loop-cmp : goal.invariant-loop-cmp
invariant-loop-cmp l = l.lits.items ≡ map (cmp_lit (tables_of l.join)) (take l.cmp-index l.case)
