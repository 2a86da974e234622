-- What a call is given, and which join rows meet a condition.
use Rattle.std.specs.Prelude.{ℕ, Bool, true, false, ◌&&◌, ◌||◌, List, [], ◌∷◌, map, filter, slice_index_or}
use Rattle.mig_schema.specs.declared.programs.Join.{Join}
use Rattle.mig_schema.specs.declared.programs.Scalar.{Scalar}
use Rattle.mig_schema.specs.declared.programs.Scalar.TheVariants as scalar
use Rattle.mig_schema.specs.declared.programs.Item.{Item}
use Rattle.mig_schema.specs.declared.programs.Item.TheVariants as item
use Rattle.mig_schema.specs.declared.programs.Cmp.{Cmp}
use Rattle.mig_schema.specs.declared.values.Value.{Value}
use Rattle.mig_schema.specs.declared.values.Value.TheVariants as value
use Rattle.mig_schema.specs.Joins.{tables_of}
use Rattle.mig_meaning.specs.declared.states.State.{State}
use Rattle.mig_meaning.specs.Values.{no_value, compares}
use Rattle.mig_meaning.specs.Rows.{JoinRow, column_in, join_rows}

-- what a call is given: its arguments and its 16 keys
pub record Given : Type 0 where
  pub args : List Value
  pub keys : List ℕ

-- a scalar's value; `fresh n` is the n-th of the call's keys
abbrev pub scalar_value : Given → Scalar → Value
scalar_value g (scalar.Param p) = slice_index_or g.args p no_value
scalar_value g (scalar.Int i) = value.Int i
scalar_value g (scalar.Text t) = value.Text t
scalar_value g (scalar.Fresh n) = slice_index_or (map value.Key g.keys) n no_value

-- the value of one side of a comparison
abbrev pub item_value : Given → List ℕ → JoinRow → Item → Value
item_value g ts e (item.Col c) = column_in ts e c
item_value g ts e (item.Scalar s) = scalar_value g s

-- whether a comparison is true at a join row
abbrev pub cmp_true : Given → List ℕ → JoinRow → Cmp → Bool
cmp_true g ts e c = compares c.op (item_value g ts e c.left) (item_value g ts e c.right)

-- whether all comparisons of a case are true
abbrev pub case_true : Given → List ℕ → JoinRow → List Cmp → Bool
case_true g ts e [] = true
case_true g ts e (c ∷ cs) = cmp_true g ts e c && case_true g ts e cs

-- whether some case of a condition is true
abbrev pub cases_true : Given → List ℕ → JoinRow → List (List Cmp) → Bool
cases_true g ts e [] = false
cases_true g ts e (c ∷ cs) = case_true g ts e c || cases_true g ts e cs

-- the join rows that meet a condition
abbrev pub met_rows : Given → State → Join → List (List Cmp) → List JoinRow
met_rows g s j cases = filter (λ e. cases_true g (tables_of j) e cases) (join_rows s j)
