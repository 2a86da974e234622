use Rattle.std.proofs.Common.{◌≡◌, map, drop}
use Rattle.std.specs.List.{find, flat_map}
use Rattle.mig_schema.specs.declared.programs.Joined.{Joined}
use Rattle.mig_schema.specs.Columns.{columns_in}
use Rattle.mig_schema.specs.Joins.{in_one_class}
use Rattle.mig_typing.proofs.joins.first_in_joined.Given as goal

abbrev pub invariant-loop-i : goal.invariant-loop-i
invariant-loop-i l =
    find (in_one_class l.join l.column) (flat_map (columns_in l.schema) (map (λ (m : Joined). m.table) (drop l.i l.joined)))
    ≡ find (in_one_class l.join l.column) (flat_map (columns_in l.schema) (map (λ (m : Joined). m.table) l.joined))
