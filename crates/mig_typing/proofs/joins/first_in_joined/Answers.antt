-- The first column of joined tables is that of the first one that has one.
use Rattle.std.proofs.Common.{◌≡◌, ◌+◌, List, ◌∷◌, map, drop, get_or, sym, ◌∙◌}
use Rattle.std.specs.List.{find, flat_map}
use Rattle.std.proofs.lemmas.List.{at_drop_more}
use Rattle.mig_schema.specs.declared.programs.Joined.{Joined}
use Rattle.mig_schema.specs.Columns.{columns_in}
use Rattle.mig_schema.specs.Joins.{in_one_class}
use Rattle.mig_typing.proofs.Finds.{find-append_some, find-append_none}
use Rattle.mig_typing.proofs.joins.first_in_joined.Goals as goal

-- what stands where a number is out of range
abbrev none : Joined
none = record { table = 0; left = record { table = 0; column = 0 }; right = record { table = 0; column = 0 } }

pub returns-in-Some : goal.returns-in-Some
returns-in-Some c =
    let p = in_one_class c.args.join.now c.args.column in
    let tables = columns_in c.args.schema.now in
    let ms = c.args.joined.now in
    sym
    (sym c.loop-i.invariant
    ∙ at_drop_more (λ (ns : List Joined). find p (flat_map tables (map (λ (m : Joined). m.table) ns))) ms c.loop-i.i none c.loop-i-test.true
    ∙ find-append_some p (tables (get_or ms c.loop-i.i none).table) (flat_map tables (map (λ (m : Joined). m.table) (drop (c.loop-i.i + 1) ms))) c.in-Some.first (sym c.first_in_table.ensures ∙ c.in-Some.is))

pub loop-i-preserved : goal.loop-i-preserved
loop-i-preserved c =
    let p = in_one_class c.args.join.now c.args.column in
    let tables = columns_in c.args.schema.now in
    let ms = c.args.joined.now in
    sym (find-append_none p (tables (get_or ms c.loop-i.i none).table) (flat_map tables (map (λ (m : Joined). m.table) (drop (c.loop-i.i + 1) ms))) (sym c.first_in_table.ensures ∙ c.in-None.is))
    ∙ sym (at_drop_more (λ (ns : List Joined). find p (flat_map tables (map (λ (m : Joined). m.table) ns))) ms c.loop-i.i none c.loop-i-test.true)
    ∙ c.loop-i.invariant
