-- Values: their kinds, their equality and their order.
use Rattle.std.specs.Prelude.{◌==◌, Bool, true, false, not, int_le, pos}
use Rattle.std.specs.Ordering.{int_eq}
use Rattle.std.specs.Str.{bytes_eq}
use Rattle.mig_schema.specs.declared.tables.Kind.{Kind}
use Rattle.mig_schema.specs.declared.tables.Kind.TheVariants as kind
use Rattle.mig_schema.specs.declared.values.Value.{Value}
use Rattle.mig_schema.specs.declared.values.Value.TheVariants as value
use Rattle.mig_schema.specs.declared.programs.Op.{Op}
use Rattle.mig_schema.specs.declared.programs.Op.TheVariants.{Eq, Ne, Lt, Le, Gt, Ge}

-- what stands where a number is out of range
abbrev pub no_value : Value
no_value = value.Int (pos 0)

-- whether a value is of a kind
abbrev pub of_kind : Kind → Value → Bool
of_kind kind.Int (value.Int i) = true
of_kind kind.Text (value.Text t) = true
of_kind kind.Key (value.Key k) = true
of_kind _ _ = false

-- equality of values; values of different kinds differ
abbrev pub value_eq : Value → Value → Bool
value_eq (value.Int i) (value.Int j) = int_eq i j
value_eq (value.Text s) (value.Text t) = bytes_eq s t
value_eq (value.Key k) (value.Key l) = k == l
value_eq _ _ = false

-- the order of ints; of other values it is always true, so that its laws need no kinds
abbrev pub value_le : Value → Value → Bool
value_le (value.Int i) (value.Int j) = int_le i j
value_le _ _ = true

-- whether an operator is true of two values
abbrev pub compares : Op → Value → Value → Bool
compares Eq a b = value_eq a b
compares Ne a b = not (value_eq a b)
compares Le a b = value_le a b
compares Lt a b = not (value_le b a)
compares Ge a b = value_le b a
compares Gt a b = not (value_le a b)
