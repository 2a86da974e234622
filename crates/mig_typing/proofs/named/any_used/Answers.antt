-- The used columns are the selected, the written and the compared ones.
use Rattle.std.proofs.Common.{arith}
use Rattle.std.proofs.lemmas.Grind.{common_steps}
use Rattle.mig_schema.specs.declared.programs.Cmp.{Cmp}
use Rattle.std.specs.Prelude.{◌||◌}
use Rattle.std.specs.List.{list_any}
use Rattle.mig_schema.specs.Typed.{item_columns}
use Rattle.mig_typing.specs.Seen.{seen}
use Rattle.mig_typing.proofs.Parts.{used, in_cases}
use Rattle.mig_typing.proofs.named.any_used.Goals as goal

pub returns-then-any_written : goal.returns-then-any_written
returns-then-any_written g c = grind (arith, common_steps, used (g.T.ColumnTest.wrong c.args.test.now) (seen c.args.piece.now))

pub returns-else-any_written : goal.returns-else-any_written
returns-else-any_written g c =
    let q = g.T.ColumnTest.wrong c.args.test.now in
    grind (arith, common_steps, used q (seen c.args.piece.now), in_cases (λ (c' : Cmp). list_any q (item_columns c'.left) || list_any q (item_columns c'.right)) c.args.piece.now.cases.now)
