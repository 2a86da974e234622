-- The named columns are those of the equalities and the used ones.
use Rattle.std.proofs.Common.{arith}
use Rattle.std.proofs.lemmas.Grind.{common_steps}
use Rattle.mig_typing.specs.Seen.{seen}
use Rattle.mig_typing.proofs.Parts.{named}
use Rattle.mig_typing.proofs.named.any_named.Goals as goal

pub returns-then-any_equated : goal.returns-then-any_equated
returns-then-any_equated g c = grind (arith, common_steps, named (g.T.ColumnTest.wrong c.args.test.now) (seen c.args.piece.now))

pub returns-else-any_equated : goal.returns-else-any_equated
returns-else-any_equated g c = grind (arith, common_steps, named (g.T.ColumnTest.wrong c.args.test.now) (seen c.args.piece.now))
