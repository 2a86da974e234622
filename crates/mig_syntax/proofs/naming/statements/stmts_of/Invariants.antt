use Rattle.std.proofs.Common.{◌≡◌, map, take}
use Rattle.mig_syntax.specs.Naming as spec
use Rattle.mig_syntax.proofs.naming.statements.stmts_of.Given as goal

abbrev pub invariant-loop-stmt : goal.invariant-loop-stmt
invariant-loop-stmt l = l.all.items ≡ map (spec.stmt_of l.tables l.params) (take l.stmt-index l.stmts)
