-- Values at the leaders of their columns' classes, as the functions keep them.
use Rattle.std.specs.Prelude.{Bool, not, ◌||◌, List, map, filter}
use Rattle.std.specs.List.{list_any}
use Rattle.mig_schema.specs.Columns.{same_col}
use Rattle.mig_schema.specs.Joins.{leader}
use Rattle.mig_schema.specs.declared.programs.Assign.{Assign}
use Rattle.mig_schema.specs.declared.programs.Join.{Join}
use Rattle.mig_schema.specs.declared.programs.Scalar.{Scalar}
use Rattle.mig_schema.specs.declared.tables.ColId.{ColId}
use Rattle.mig_sketch.specs.Values.{same_scalar}

-- a value at the leader of its column's class
abbrev pub led : Join → Assign → Assign
led tree a = record { column = leader tree.more a.column; value = a.value }

-- the scalars for the class that this column leads
abbrev pub scalars_led : ColId → List Assign → List Scalar
scalars_led own values = map (λ (a : Assign). a.value) (filter (λ (a : Assign). same_col own a.column) values)

-- the scalars for the class of a column of the tree
abbrev pub scalars_at : Join → List Assign → ColId → List Scalar
scalars_at tree values d = scalars_led (leader tree.more d) values

-- whether a value is the same scalar, or for another class
abbrev pub is_like : ColId → Scalar → Assign → Bool
is_like own x a = not (same_col own a.column) || same_scalar x a.value

-- whether there is a scalar for the class
abbrev pub is_given : ColId → List Assign → Bool
is_given own values = list_any (λ (a : Assign). same_col own a.column) values
