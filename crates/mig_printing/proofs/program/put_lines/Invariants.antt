use Rattle.std.proofs.Common.{◌≡◌, ◌++◌, take}
use Rattle.std.specs.List.{flat_map}
use Rattle.mig_printing.specs.Printing.{line_text, stmt_text}
use Rattle.mig_printing.proofs.program.put_lines.Given as goal

abbrev pub invariant-loop-stmt : goal.invariant-loop-stmt
invariant-loop-stmt l = l.out ≡ l.fn.out ++ flat_map (λ t. line_text (stmt_text l.schema l.params t)) (take l.stmt-index l.stmts)
