-- The order of rows.
use Rattle.std.specs.Prelude.{List}
use Rattle.std.specs.Cmp.Lexicographic.{slice_cmp}
use Rattle.std.specs.declared.cmp.Ordering.{Ordering}
use Rattle.mig_schema.specs.declared.values.Value.{Value}
use Rattle.mig_calls.specs.Order.{value_order}

-- rows by their first values that differ; else the shorter first
abbrev pub row_order : List Value → List Value → Ordering
row_order = slice_cmp value_order
