-- The trees of names that programs with numbers are printed from.
use Rattle.std.proofs.Common.{List, [], map, if◌then◌else◌, decimal}
use Rattle.std.specs.Fmt.{signed_decimal}
use Rattle.mig_schema.specs.Columns.{column_at}
use Rattle.mig_schema.specs.declared.tables.ColId.{ColId}
use Rattle.mig_schema.specs.declared.tables.Schema.{Schema}
use Rattle.mig_schema.specs.declared.programs.Assign.{Assign}
use Rattle.mig_schema.specs.declared.programs.Body.{Body}
use Rattle.mig_schema.specs.declared.programs.Body.TheVariants as body
use Rattle.mig_schema.specs.declared.programs.Cmp.{Cmp}
use Rattle.mig_schema.specs.declared.programs.Cond.{Cond}
use Rattle.mig_schema.specs.declared.programs.Function.{Function}
use Rattle.mig_schema.specs.declared.programs.Item.{Item}
use Rattle.mig_schema.specs.declared.programs.Item.TheVariants as item
use Rattle.mig_schema.specs.declared.programs.Join.{Join}
use Rattle.mig_schema.specs.declared.programs.Joined.{Joined}
use Rattle.mig_schema.specs.declared.programs.Param.{Param}
use Rattle.mig_schema.specs.declared.programs.Program.{Program}
use Rattle.mig_schema.specs.declared.programs.Query.{Query}
use Rattle.mig_schema.specs.declared.programs.Scalar.{Scalar}
use Rattle.mig_schema.specs.declared.programs.Scalar.TheVariants as scalar
use Rattle.mig_schema.specs.declared.programs.Stmt.{Stmt}
use Rattle.mig_schema.specs.declared.programs.Stmt.TheVariants.{Insert, Delete, Set}
use Rattle.mig_grammar.specs.declared.tree.AssignTree.{AssignTree}
use Rattle.mig_grammar.specs.declared.tree.BodyTree.{BodyTree}
use Rattle.mig_grammar.specs.declared.tree.BodyTree.TheVariants as body_tree
use Rattle.mig_grammar.specs.declared.tree.CmpTree.{CmpTree}
use Rattle.mig_grammar.specs.declared.tree.ColName.{ColName}
use Rattle.mig_grammar.specs.declared.tree.FunctionTree.{FunctionTree}
use Rattle.mig_grammar.specs.declared.tree.ItemTree.{ItemTree}
use Rattle.mig_grammar.specs.declared.tree.ItemTree.TheVariants as item_tree
use Rattle.mig_grammar.specs.declared.tree.JoinTree.{JoinTree}
use Rattle.mig_grammar.specs.declared.tree.JoinedTree.{JoinedTree}
use Rattle.mig_grammar.specs.declared.tree.RowsTree.{RowsTree}
use Rattle.mig_grammar.specs.declared.tree.ScalarTree.{ScalarTree}
use Rattle.mig_grammar.specs.declared.tree.ScalarTree.TheVariants as scalar_tree
use Rattle.mig_grammar.specs.declared.tree.SelectTree.{SelectTree}
use Rattle.mig_grammar.specs.declared.tree.StmtTree.{StmtTree}
use Rattle.mig_grammar.specs.declared.tree.StmtTree.TheVariants as stmt_tree
use Rattle.mig_grammar.specs.declared.tree.ValueTree.{ValueTree}
use Rattle.mig_grammar.specs.declared.tree.ValueTree.TheVariants as value_tree
use Rattle.mig_printing.specs.Printing.{table_text, param_name, is_always}

module _ (s : Schema) where
  abbrev pub col_tree : ColId → ColName
  col_tree c = record { table = table_text s c.table; column = (column_at s c).name }

  abbrev pub joined_tree : Joined → JoinedTree
  joined_tree j = record { table = table_text s j.table; left = col_tree j.left; right = col_tree j.right }

  abbrev pub join_tree : Join → JoinTree
  join_tree j = record { first = table_text s j.first; more = map joined_tree j.more }

  module _ (ps : List Param) where
    abbrev pub scalar_tree_of : Scalar → ScalarTree
    scalar_tree_of (scalar.Param p) = scalar_tree.Name (param_name ps p)
    scalar_tree_of (scalar.Int i) = scalar_tree.Int (signed_decimal i)
    scalar_tree_of (scalar.Text t) = scalar_tree.Text t
    scalar_tree_of (scalar.Fresh n) = scalar_tree.Int (decimal n)

    abbrev pub value_tree_of : Scalar → ValueTree
    value_tree_of (scalar.Param p) = value_tree.Scalar (scalar_tree.Name (param_name ps p))
    value_tree_of (scalar.Int i) = value_tree.Scalar (scalar_tree.Int (signed_decimal i))
    value_tree_of (scalar.Text t) = value_tree.Scalar (scalar_tree.Text t)
    value_tree_of (scalar.Fresh n) = value_tree.Fresh (decimal n)

    abbrev pub item_tree_of : Item → ItemTree
    item_tree_of (item.Col c) = item_tree.Col (col_tree c)
    item_tree_of (item.Scalar x) = item_tree.Scalar (scalar_tree_of x)

    abbrev pub cmp_tree : Cmp → CmpTree
    cmp_tree c = record { op = c.op; left = item_tree_of c.left; right = item_tree_of c.right }

    abbrev pub cases_tree : List (List Cmp) → List (List CmpTree)
    cases_tree cases = if is_always cases then [] else map (λ (case : List Cmp). map cmp_tree case) cases

    abbrev pub rows_tree : Join → Cond → RowsTree
    rows_tree j c = record { join = join_tree j; cases = cases_tree c.cases }

    abbrev pub assign_tree : Assign → AssignTree
    assign_tree a = record { column = col_tree a.column; value = value_tree_of a.value }

    abbrev pub stmt_tree_of : Stmt → StmtTree
    stmt_tree_of (Insert join values) = stmt_tree.Insert (join_tree join) (map assign_tree values)
    stmt_tree_of (Delete tables join test) = stmt_tree.Delete (map (table_text s) tables) (rows_tree join test)
    stmt_tree_of (Set column x join test) = stmt_tree.Set (col_tree column) (scalar_tree_of x) (rows_tree join test)

    abbrev pub select_tree : Query → SelectTree
    select_tree q = record { columns = map col_tree q.columns; rows = rows_tree q.join q.cond }

    abbrev pub body_tree_of : Body → BodyTree
    body_tree_of (body.Update stmts) = body_tree.Update (map stmt_tree_of stmts)
    body_tree_of (body.Query q) = body_tree.Query (select_tree q)

  abbrev pub function_tree : Function → FunctionTree
  function_tree f = record { name = f.name; params = f.params; body = body_tree_of f.params f.body }

  abbrev pub trees_of : Program → List FunctionTree
  trees_of p = map function_tree p.functions
