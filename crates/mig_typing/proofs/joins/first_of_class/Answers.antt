-- The columns of a join are those of its first table and those of the others.
use Rattle.std.proofs.Common.{◌≡◌, List, map, sym, ap, ◌∙◌}
use Rattle.std.specs.List.{find, flat_map}
use Rattle.std.specs.Option.{unwrap_or}
use Rattle.mig_schema.specs.declared.programs.Joined.{Joined}
use Rattle.mig_schema.specs.Columns.{columns_in}
use Rattle.mig_schema.specs.Joins.{in_one_class}
use Rattle.mig_typing.proofs.Finds.{find-append_some, find-append_none}
use Rattle.mig_typing.proofs.joins.first_of_class.Goals as goal

pub returns-in-Some : goal.returns-in-Some
returns-in-Some c =
    let p = in_one_class c.args.join.now c.args.column in
    let tables = columns_in c.args.schema.now in
    sym (ap (λ o. unwrap_or o c.args.column) (find-append_some p (tables c.args.join.now.first) (flat_map tables (map (λ (m : Joined). m.table) c.args.join.now.more)) c.in-Some.first (sym c.first_in_table.ensures ∙ c.in-Some.is)))

pub returns-in-None : goal.returns-in-None
returns-in-None c =
    let p = in_one_class c.args.join.now c.args.column in
    let tables = columns_in c.args.schema.now in
    c.unwrap_or.ensures
    ∙ ap (λ o. unwrap_or o c.args.column)
    (c.first_in_joined.ensures
    ∙ ap (λ (ns : List Joined). find p (flat_map tables (map (λ (m : Joined). m.table) ns))) c.as_slice.ensures
    ∙ sym (find-append_none p (tables c.args.join.now.first) (flat_map tables (map (λ (m : Joined). m.table) c.args.join.now.more)) (sym c.first_in_table.ensures ∙ c.in-None.is)))
