-- The named tables are those of the join, the listed ones, and those of the named columns.
use Rattle.std.proofs.Common.{arith}
use Rattle.std.proofs.lemmas.Grind.{common_steps}
use Rattle.mig_typing.specs.Seen.{seen}
use Rattle.mig_typing.proofs.Parts.{unknown}
use Rattle.mig_typing.proofs.rules.unknown_table.Goals as goal

pub returns-then-any_unknown : goal.returns-then-any_unknown
returns-then-any_unknown c = grind (arith, common_steps, unknown c.args.schema.now (seen c.args.piece.now))

pub returns-else-any_unknown : goal.returns-else-any_unknown
returns-else-any_unknown c = grind (arith, common_steps, unknown c.args.schema.now (seen c.args.piece.now))
