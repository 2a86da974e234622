-- The order of values, in which equal ones stand together.
use Rattle.std.specs.Cmp.Lexicographic.{slice_cmp}
use Rattle.std.specs.Ordering.{int_cmp, nat_cmp}
use Rattle.std.specs.declared.cmp.Ordering.{Ordering}
use Rattle.std.specs.declared.cmp.Ordering.TheVariants.{Less, Greater}
use Rattle.mig_schema.specs.declared.values.Value.{Value}
use Rattle.mig_schema.specs.declared.values.Value.TheVariants.{Int, Text, Key}

-- ints by value, texts by bytes, keys by number; ints come before texts, and texts before keys
abbrev pub value_order : Value → Value → Ordering
value_order (Int i) (Int j) = int_cmp i j
value_order (Text t) (Text u) = slice_cmp nat_cmp t u
value_order (Key k) (Key l) = nat_cmp k l
value_order (Int i) (Text u) = Less
value_order (Int i) (Key l) = Less
value_order (Text t) (Key l) = Less
value_order (Text t) (Int j) = Greater
value_order (Key k) (Int j) = Greater
value_order (Key k) (Text u) = Greater
