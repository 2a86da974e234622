use Rattle.std.proofs.Common.{◌≡◌, ◌++◌, take, map}
use Rattle.mig_invariant.specs.Candidates.{join_of}
use Rattle.mig_invariant.proofs.joining.add_statements.Given as goal

abbrev pub invariant-loop-stmt : goal.invariant-loop-stmt
invariant-loop-stmt l = l.list.items ≡ l.fn.list.items ++ map join_of (take l.stmt-index l.stmts)
