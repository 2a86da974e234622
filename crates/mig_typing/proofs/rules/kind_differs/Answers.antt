-- The comparisons of a condition are those of its cases.
use Rattle.std.proofs.Common.{arith}
use Rattle.std.proofs.lemmas.Grind.{common_steps}
use Rattle.mig_typing.proofs.Parts.{in_cases}
use Rattle.mig_typing.proofs.rules.kind_differs.Goals as goal

pub returns-else-written_differs : goal.returns-else-written_differs
returns-else-written_differs c = grind (arith, common_steps, in_cases)
