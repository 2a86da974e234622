use Rattle.std.proofs.Common.{◌≡◌, ℕ, ◌<◌, false, map}
use Rattle.mig_schema.specs.declared.faults.ProgramRule.{ProgramRule}
use Rattle.mig_schema.specs.Typed.{piece_of}
use Rattle.mig_typing.specs.Broken.{item_has, piece_broken}
use Rattle.mig_typing.proofs.programs.first_stmt.Given as goal

abbrev pub invariant-loop-k : goal.invariant-loop-k
invariant-loop-k l = (r : ProgramRule) (j : ℕ) → j < l.k → item_has (piece_broken l.schema l.function r) (map piece_of l.stmts) j ≡ false
