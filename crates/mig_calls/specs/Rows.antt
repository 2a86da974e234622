-- How many rows statements add.
use Rattle.std.specs.Prelude.{ℕ, length}
use Rattle.mig_schema.specs.declared.programs.Stmt.{Stmt}
use Rattle.mig_schema.specs.declared.programs.Stmt.TheVariants.{Insert, Delete, Set}
use Rattle.mig_schema.specs.declared.programs.Body.{Body}
use Rattle.mig_schema.specs.declared.programs.Body.TheVariants as body
use Rattle.mig_schema.specs.Joins.{tables_of}
use Rattle.mig_meaning.specs.Lists.{total}

-- an insert adds a row to each joined table
abbrev pub rows_added : Stmt → ℕ
rows_added (Insert join values) = length (tables_of join)
rows_added (Delete listed join test) = 0
rows_added (Set column x join test) = 0

-- how many rows a function adds
abbrev pub rows_added_by : Body → ℕ
rows_added_by (body.Update stmts) = total rows_added stmts
rows_added_by (body.Query q) = 0
