-- The scalars are those of the values and those of the comparisons.
use Rattle.std.proofs.Common.{arith}
use Rattle.std.proofs.lemmas.Grind.{common_steps}
use Rattle.mig_schema.specs.declared.programs.Cmp.{Cmp}
use Rattle.std.specs.Prelude.{◌||◌}
use Rattle.std.specs.List.{list_any}
use Rattle.mig_schema.specs.Typed.{item_scalars, names_no_param}
use Rattle.mig_typing.specs.Seen.{seen}
use Rattle.mig_typing.proofs.Parts.{unnamed, in_cases}
use Rattle.mig_typing.proofs.rules.unknown_parameter.Goals as goal

pub returns-then-written_names_none : goal.returns-then-written_names_none
returns-then-written_names_none c = grind (arith, common_steps, unnamed c.args.function.now (seen c.args.piece.now))

pub returns-else-written_names_none : goal.returns-else-written_names_none
returns-else-written_names_none c =
    let q = names_no_param c.args.function.now in
    grind (arith, common_steps, unnamed c.args.function.now (seen c.args.piece.now), in_cases (λ (c' : Cmp). list_any q (item_scalars c'.left) || list_any q (item_scalars c'.right)) c.args.piece.now.cases.now)
