-- The columns of a join are those of its first table and those of the others.
use Rattle.std.proofs.Common.{arith, not}
use Rattle.std.specs.Prelude.{◌==◌}
use Rattle.std.proofs.lemmas.Grind.{common_steps}
use Rattle.mig_schema.specs.declared.tables.ColId.{ColId}
use Rattle.mig_schema.specs.Typed.{values_for}
use Rattle.mig_typing.specs.Seen.{seen}
use Rattle.mig_typing.proofs.Parts.{joined}
use Rattle.mig_typing.proofs.rules.insert_cover.Goals as goal

pub returns-else-is_uncovered : goal.returns-else-is_uncovered
returns-else-is_uncovered c = grind (arith, common_steps, joined (λ (c' : ColId). not (values_for (seen c.args.piece.now) c' == 1)) c.args.schema.now c.args.piece.now.join.now)
