-- From names to numbers: the job that a tree of names says.
use Rattle.std.specs.Prelude.{ℕ, min, Bool, Option, Some, None, List, [], ◌∷◌, map, position}
use Rattle.std.specs.List.{find}
use Rattle.std.specs.Option.{option_map_or}
use Rattle.std.specs.Str.{bytes_eq}
use Rattle.mig_schema.specs.declared.tables.ColId.{ColId}
use Rattle.mig_schema.specs.declared.tables.Column.{Column}
use Rattle.mig_schema.specs.declared.tables.Link.{Link}
use Rattle.mig_schema.specs.declared.tables.Schema.{Schema}
use Rattle.mig_schema.specs.declared.tables.Table.{Table}
use Rattle.mig_schema.specs.declared.programs.Scalar.{Scalar}
use Rattle.mig_schema.specs.declared.programs.Scalar.TheVariants as scalar
use Rattle.mig_schema.specs.declared.programs.Item.{Item}
use Rattle.mig_schema.specs.declared.programs.Item.TheVariants as item
use Rattle.mig_schema.specs.declared.programs.Cmp.{Cmp}
use Rattle.mig_schema.specs.declared.programs.Assign.{Assign}
use Rattle.mig_schema.specs.declared.programs.Joined.{Joined}
use Rattle.mig_schema.specs.declared.programs.Join.{Join}
use Rattle.mig_schema.specs.declared.programs.Cond.{Cond}
use Rattle.mig_schema.specs.declared.programs.Stmt.{Stmt}
use Rattle.mig_schema.specs.declared.programs.Stmt.TheVariants as stmt
use Rattle.mig_schema.specs.declared.programs.Query.{Query}
use Rattle.mig_schema.specs.declared.programs.Body.{Body}
use Rattle.mig_schema.specs.declared.programs.Body.TheVariants as body
use Rattle.mig_schema.specs.declared.programs.Param.{Param}
use Rattle.mig_schema.specs.declared.programs.Function.{Function}
use Rattle.mig_schema.specs.declared.programs.Program.{Program}
use Rattle.mig_schema.specs.declared.jobs.Hint.{Hint}
use Rattle.mig_schema.specs.declared.jobs.Job.{Job}
use Rattle.mig_grammar.specs.declared.tree.ColName.{ColName}
use Rattle.mig_grammar.specs.declared.tree.LinkTree.{LinkTree}
use Rattle.mig_grammar.specs.declared.tree.SchemaTree.{SchemaTree}
use Rattle.mig_grammar.specs.declared.tree.ScalarTree.{ScalarTree}
use Rattle.mig_grammar.specs.declared.tree.ScalarTree.TheVariants as scalar_tree
use Rattle.mig_grammar.specs.declared.tree.ValueTree.{ValueTree}
use Rattle.mig_grammar.specs.declared.tree.ValueTree.TheVariants as value_tree
use Rattle.mig_grammar.specs.declared.tree.ItemTree.{ItemTree}
use Rattle.mig_grammar.specs.declared.tree.ItemTree.TheVariants as item_tree
use Rattle.mig_grammar.specs.declared.tree.CmpTree.{CmpTree}
use Rattle.mig_grammar.specs.declared.tree.JoinedTree.{JoinedTree}
use Rattle.mig_grammar.specs.declared.tree.JoinTree.{JoinTree}
use Rattle.mig_grammar.specs.declared.tree.AssignTree.{AssignTree}
use Rattle.mig_grammar.specs.declared.tree.StmtTree.{StmtTree}
use Rattle.mig_grammar.specs.declared.tree.StmtTree.TheVariants as stmt_tree
use Rattle.mig_grammar.specs.declared.tree.SelectTree.{SelectTree}
use Rattle.mig_grammar.specs.declared.tree.BodyTree.{BodyTree}
use Rattle.mig_grammar.specs.declared.tree.BodyTree.TheVariants as body_tree
use Rattle.mig_grammar.specs.declared.tree.FunctionTree.{FunctionTree}
use Rattle.mig_grammar.specs.declared.tree.HintTree.{HintTree}
use Rattle.mig_grammar.specs.declared.tree.JobTree.{JobTree}
use Rattle.mig_tokens.specs.Numbers.{int_of, label_of, weight_of}

-- the number at a place; 4294967295 where there is none, or only one further on
abbrev pub number_at : Option ℕ → ℕ
number_at place = option_map_or (λ n. min n 4294967295) place 4294967295

-- the number of the first item that passes
abbrev pub number_of : {A : Type 0} → (A → Bool) → List A → ℕ
number_of test xs = number_at (position test xs)

-- the number of the first table of this name
abbrev pub table_of : List Table → List ℕ → ℕ
table_of tables name = number_of (λ (t : Table). bytes_eq t.name name) tables

-- the columns of the first table of this name; none where there is no such table
abbrev pub columns_of : List Table → List ℕ → List Column
columns_of tables name = option_map_or (λ (t : Table). t.columns) (find (λ (t : Table). bytes_eq t.name name) tables) []

-- the numbers of a column
abbrev pub col_of : List Table → ColName → ColId
col_of tables c = record { table = table_of tables c.table; column = number_of (λ (d : Column). bytes_eq d.name c.column) (columns_of tables c.table) }

-- a link
abbrev pub link_of : List Table → LinkTree → Link
link_of tables l = record { left = col_of tables l.left; right = col_of tables l.right }

-- a schema
abbrev pub schema_of : SchemaTree → Schema
schema_of s = record { tables = s.tables; links = map (link_of s.tables) s.links }

-- the number of the first parameter of this name
abbrev pub param_of : List Param → List ℕ → ℕ
param_of params name = number_of (λ (p : Param). bytes_eq p.name name) params

-- a scalar
abbrev pub scalar_of : List Param → ScalarTree → Scalar
scalar_of params (scalar_tree.Name v) = scalar.Param (param_of params v)
scalar_of params (scalar_tree.Int v) = scalar.Int (int_of v)
scalar_of params (scalar_tree.Text v) = scalar.Text v

-- a value
abbrev pub value_of : List Param → ValueTree → Scalar
value_of params (value_tree.Scalar x) = scalar_of params x
value_of params (value_tree.Fresh v) = scalar.Fresh (label_of v)

-- a side of a comparison
abbrev pub item_of : List Table → List Param → ItemTree → Item
item_of tables params (item_tree.Col c) = item.Col (col_of tables c)
item_of tables params (item_tree.Scalar x) = item.Scalar (scalar_of params x)

-- a comparison
abbrev pub cmp_of : List Table → List Param → CmpTree → Cmp
cmp_of tables params c = record { op = c.op; left = item_of tables params c.left; right = item_of tables params c.right }

-- a condition; one empty case where there is no `where`
abbrev pub cond_of : List Table → List Param → List (List CmpTree) → Cond
cond_of tables params [] = record { cases = [] ∷ [] }
cond_of tables params (c ∷ cs) = record { cases = map (λ (case : List CmpTree). map (cmp_of tables params) case) (c ∷ cs) }

-- an assignment
abbrev pub assign_of : List Table → List Param → AssignTree → Assign
assign_of tables params a = record { column = col_of tables a.column; value = value_of params a.value }

-- a further table of a join
abbrev pub joined_of : List Table → JoinedTree → Joined
joined_of tables j = record { table = table_of tables j.table; left = col_of tables j.left; right = col_of tables j.right }

-- a join
abbrev pub join_of : List Table → JoinTree → Join
join_of tables j = record { first = table_of tables j.first; more = map (joined_of tables) j.more }

-- a statement
abbrev pub stmt_of : List Table → List Param → StmtTree → Stmt
stmt_of tables params (stmt_tree.Insert join values) = stmt.Insert (join_of tables join) (map (assign_of tables params) values)
stmt_of tables params (stmt_tree.Delete names rows) = stmt.Delete (map (table_of tables) names) (join_of tables rows.join) (cond_of tables params rows.cases)
stmt_of tables params (stmt_tree.Set column x rows) = stmt.Set (col_of tables column) (scalar_of params x) (join_of tables rows.join) (cond_of tables params rows.cases)

-- a query
abbrev pub query_of : List Table → List Param → SelectTree → Query
query_of tables params q = record { columns = map (col_of tables) q.columns; join = join_of tables q.rows.join; cond = cond_of tables params q.rows.cases }

-- the statements, or the query
abbrev pub body_of : List Table → List Param → BodyTree → Body
body_of tables params (body_tree.Update stmts) = body.Update (map (stmt_of tables params) stmts)
body_of tables params (body_tree.Query q) = body.Query (query_of tables params q)

-- a function, whose names of parameters are its own
abbrev pub function_of : List Table → FunctionTree → Function
function_of tables f = record { name = f.name; params = f.params; body = body_of tables f.params f.body }

-- a program over these tables
abbrev pub program_of : List Table → List FunctionTree → Program
program_of tables fs = record { functions = map (function_of tables) fs }

-- a hint, with its weight as a number
abbrev pub hint_of : (source target : List Table) → HintTree → Hint
hint_of source target h = record { source = col_of source h.source; target = col_of target h.target; weight = weight_of h.weight }

-- the hints; none where the word `hints` is left out
abbrev pub hints_of : (source target : List Table) → Option (List HintTree) → List Hint
hints_of source target None = []
hints_of source target (Some hs) = map (hint_of source target) hs

-- the job; its names stand over the old tables, the right ends of its hints over the new ones
abbrev pub job_of : JobTree → Job
job_of t = record {
  source = schema_of t.source;
  target = schema_of t.target;
  program = program_of t.source.tables t.functions;
  hints = hints_of t.source.tables t.target.tables t.hints;
}
