-- The comparisons of a condition are those of its cases.
use Rattle.std.proofs.Common.{◌||◌, List, ap, sym, ◌∙◌}
use Rattle.std.specs.List.{list_any}
use Rattle.mig_schema.specs.declared.programs.Cmp.{Cmp}
use Rattle.mig_schema.specs.Columns.{same_col}
use Rattle.mig_schema.specs.Typed.{item_columns}
use Rattle.mig_typing.proofs.Parts.{in_cases}
use Rattle.mig_corresp.proofs.Uses.{names_column}
use Rattle.mig_corresp.proofs.using.compares.Goals as goal

pub returns : goal.returns
returns c =
    c.cases_compare.ensures
    ∙ ap (λ (cases : List (List Cmp)). list_any (λ case. list_any (names_column c.args.column) case) cases) c.as_slice.ensures
    ∙ sym (in_cases (names_column c.args.column) c.args.cond.now.cases)
