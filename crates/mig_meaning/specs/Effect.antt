-- What statements, functions and queries do.
use Rattle.std.specs.Prelude.{ℕ, ◌+◌, ◌==◌, Bool, cond, not, List, [], ◌∷◌, ◌++◌, map, filter, Option, Some, None}
use Rattle.std.specs.List.{list_any}
use Rattle.mig_schema.specs.declared.tables.ColId.{ColId}
use Rattle.mig_schema.specs.declared.tables.Column.{Column}
use Rattle.mig_schema.specs.declared.tables.Schema.{Schema}
use Rattle.mig_schema.specs.declared.programs.Joined.{Joined}
use Rattle.mig_schema.specs.declared.programs.Assign.{Assign}
use Rattle.mig_schema.specs.declared.programs.Stmt.{Stmt}
use Rattle.mig_schema.specs.declared.programs.Stmt.TheVariants.{Insert, Delete, Set}
use Rattle.mig_schema.specs.declared.programs.Query.{Query}
use Rattle.mig_schema.specs.declared.programs.Body.{Body}
use Rattle.mig_schema.specs.declared.programs.Body.TheVariants as body
use Rattle.mig_schema.specs.declared.values.Value.{Value}
use Rattle.mig_base.specs.Lists.{numbered}
use Rattle.mig_schema.specs.Columns.{columns_of, same_col}
use Rattle.mig_schema.specs.Joins.{tables_of, leader}
use Rattle.mig_meaning.specs.declared.states.Placed.{Placed}
use Rattle.mig_meaning.specs.declared.states.State.{State}
use Rattle.mig_meaning.specs.Values.{no_value}
use Rattle.mig_meaning.specs.Rows.{JoinRow, row_in, column_in}
use Rattle.mig_meaning.specs.Conditions.{Given, met_rows, scalar_value}

-- ---- insert

-- the value of a column's class: that of the first assignment to a column of the class
abbrev pub class_value : Given → List Joined → List Assign → ColId → Value
class_value g ms [] c = no_value
class_value g ms (a ∷ rest) c = cond (same_col (leader ms a.column) (leader ms c)) (scalar_value g a.value) (class_value g ms rest c)

-- the values of the new row of table t
abbrev pub new_values : Schema → Given → List Joined → List Assign → ℕ → List Value
new_values schema g ms given t = numbered (λ n (c : Column). class_value g ms given (record { table = t; column = n })) 0 (columns_of schema t)

-- the state with a row at the end of table t, with the next id
abbrev pub with_row : State → ℕ → List Value → State
with_row s t values = record {
  tables = numbered (λ n rows. cond (n == t) (rows ++ (record { id = s.next; row = record { values = values } } ∷ [])) rows) 0 s.tables;
  next = s.next + 1;
}

-- one new row for each of these tables, in order
abbrev pub with_rows : Schema → Given → List Joined → List Assign → List ℕ → State → State
with_rows schema g ms given [] s = s
with_rows schema g ms given (t ∷ ts) s = with_rows schema g ms given ts (with_row s t (new_values schema g ms given t))

-- ---- delete and set

-- whether a row of table t has its id in some of these join rows
abbrev pub takes_part : List ℕ → List JoinRow → ℕ → Placed → Bool
takes_part ts es t p = list_any (λ e. (row_in ts e t).id == p.id) es

-- the state without the rows of the listed tables that take part in these join rows
abbrev pub without_rows : List ℕ → List JoinRow → List ℕ → State → State
without_rows ts es listed s = record {
  tables = numbered (λ n rows. cond (list_any (λ t. t == n) listed) (filter (λ p. not (takes_part ts es n p)) rows) rows) 0 s.tables;
  next = s.next;
}

-- a row with a value in column c
abbrev pub with_value : ℕ → Value → Placed → Placed
with_value c v p = record { id = p.id; row = record { values = numbered (λ n (x : Value). cond (n == c) v x) 0 p.row.values } }

-- the state with a value in the column of each row that takes part in these join rows
abbrev pub with_set : List ℕ → List JoinRow → ColId → Value → State → State
with_set ts es c v s = record {
  tables = numbered (λ n rows. cond (n == c.table) (map (λ p. cond (takes_part ts es n p) (with_value c.column v p) p) rows) rows) 0 s.tables;
  next = s.next;
}

-- ---- statements, functions and queries

-- the state after a statement
abbrev pub effect : Schema → Given → Stmt → State → State
effect schema g (Insert join values) s = with_rows schema g join.more values (tables_of join) s
effect schema g (Delete listed join test) s = without_rows (tables_of join) (met_rows g s join test.cases) listed s
effect schema g (Set column value join test) s = with_set (tables_of join) (met_rows g s join test.cases) column (scalar_value g value) s

-- the state after these statements, in order
abbrev pub after_all : Schema → Given → List Stmt → State → State
after_all schema g [] s = s
after_all schema g (t ∷ ts) s = after_all schema g ts (effect schema g t s)

-- the answer of a query: the selected columns of each join row that meets the condition
abbrev pub answer : Given → Query → State → List (List Value)
answer g q s = map (λ e. map (column_in (tables_of q.join) e) q.columns) (met_rows g s q.join q.cond.cases)

-- the state after a function
abbrev pub after : Schema → Given → Body → State → State
after schema g (body.Update stmts) s = after_all schema g stmts s
after schema g (body.Query q) s = s

-- the answer of a function, which only a query gives
abbrev pub reply : Given → Body → State → Option (List (List Value))
reply g (body.Update stmts) s = None
reply g (body.Query q) s = Some (answer g q s)
