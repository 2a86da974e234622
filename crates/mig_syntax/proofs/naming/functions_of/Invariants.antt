use Rattle.std.proofs.Common.{◌≡◌, map, take}
use Rattle.mig_syntax.specs.Naming as spec
use Rattle.mig_syntax.proofs.naming.functions_of.Given as goal

abbrev pub invariant-loop-function : goal.invariant-loop-function
invariant-loop-function l = l.all.items ≡ map (spec.function_of l.tables) (take l.function-index l.functions)
