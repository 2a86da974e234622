-- Rows of a state, and the rows of a join.
use Rattle.std.specs.Prelude.{ℕ, Bool, true, ◌&&◌, List, [], ◌∷◌, map, filter, slice_index_or}
use Rattle.mig_schema.specs.declared.tables.ColId.{ColId}
use Rattle.mig_schema.specs.declared.tables.Table.{Table}
use Rattle.mig_schema.specs.declared.tables.Schema.{Schema}
use Rattle.mig_schema.specs.declared.programs.Joined.{Joined}
use Rattle.mig_schema.specs.declared.programs.Join.{Join}
use Rattle.mig_schema.specs.declared.values.Value.{Value}
use Rattle.mig_schema.specs.Joins.{tables_of}
use Rattle.mig_meaning.specs.declared.states.Placed.{Placed}
use Rattle.mig_meaning.specs.declared.states.State.{State}
use Rattle.mig_meaning.specs.Lists.{product, place}
use Rattle.mig_meaning.specs.Values.{no_value, value_eq}

-- the row that stands where a number is out of range
abbrev pub no_row : Placed
no_row = record { id = 0; row = record { values = [] } }

-- the state with no rows
abbrev pub empty_state : Schema → State
empty_state schema = record { tables = map (λ (t : Table). []) schema.tables; next = 0 }

-- the rows of table t
abbrev pub rows_of : State → ℕ → List Placed
rows_of s t = slice_index_or s.tables t []

-- the value of a row's column
abbrev pub value_at : Placed → ℕ → Value
value_at p c = slice_index_or p.row.values c no_value

-- a choice of one placed row per joined table, in the join's order
abbrev pub JoinRow : Type 0
JoinRow = List Placed

-- the row of table t in a join row of these tables
abbrev pub row_in : List ℕ → JoinRow → ℕ → Placed
row_in ts e t = slice_index_or e (place ts t) no_row

-- the value of a column in a join row of these tables
abbrev pub column_in : List ℕ → JoinRow → ColId → Value
column_in ts e c = value_at (row_in ts e c.table) c.column

-- whether each equality of the join is true
abbrev pub meets : List ℕ → List Joined → JoinRow → Bool
meets ts [] e = true
meets ts (m ∷ ms) e = value_eq (column_in ts e m.left) (column_in ts e m.right) && meets ts ms e

-- the join rows, in product order, the first table slowest
abbrev pub join_rows : State → Join → List JoinRow
join_rows s j = filter (meets (tables_of j) j.more) (product (map (rows_of s) (tables_of j)))
