use Rattle.std.proofs.Common.{◌≡◌}
use Rattle.std.specs.List.{flat_map, range_with_len}
use Rattle.mig_schema.specs.Columns.{columns_in}
use Rattle.mig_invariant.proofs.columns.all_columns.Given as goal

abbrev pub invariant-loop-t : goal.invariant-loop-t
invariant-loop-t l = l.list ≡ flat_map (columns_in l.schema) (range_with_len 0 l.t)
