use Rattle.std.proofs.Common.{◌≡◌, map, take}
use Rattle.mig_schema.specs.Joins.{tables_of}
use Rattle.mig_obligations.specs.Forming.{join_lit}
use Rattle.mig_obligations.proofs.forming.join_lits.Given as goal

abbrev pub invariant-loop-joined : goal.invariant-loop-joined
invariant-loop-joined l = l.lits.items ≡ map (join_lit (tables_of l.join)) (take l.joined-index l.join.more)
