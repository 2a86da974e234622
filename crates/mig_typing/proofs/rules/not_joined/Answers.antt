-- The deleted tables, and those of the used columns.
use Rattle.std.proofs.Common.{arith}
use Rattle.std.proofs.lemmas.Grind.{common_steps}
use Rattle.mig_typing.specs.Seen.{seen}
use Rattle.mig_typing.proofs.Parts.{outside}
use Rattle.mig_typing.proofs.rules.not_joined.Goals as goal

pub returns-else-any_not_joined : goal.returns-else-any_not_joined
returns-else-any_not_joined c = grind (arith, common_steps, outside (seen c.args.piece.now))
