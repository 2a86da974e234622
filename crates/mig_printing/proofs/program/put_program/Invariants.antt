use Rattle.std.proofs.Common.{◌≡◌, ◌++◌, take}
use Rattle.std.specs.List.{flat_map}
use Rattle.mig_printing.specs.Printing.{function_text}
use Rattle.mig_printing.proofs.program.put_program.Given as goal

abbrev pub invariant-loop-function : goal.invariant-loop-function
invariant-loop-function l = l.out ≡ l.fn.out ++ flat_map (function_text l.schema) (take l.function-index l.fn.program.functions)
