-- What a tree must have so that the grammar spells it: names that are not reserved, lists that are not empty.
use Rattle.std.specs.Prelude.{◌≡◌, Bool, true, false, List, Option, Some, None}
use Rattle.std.specs.List.{AllByRecursion}
use Rattle.mig_schema.specs.declared.tables.Kind.{Kind}
use Rattle.mig_schema.specs.declared.tables.Kind.TheVariants as kind
use Rattle.mig_schema.specs.declared.tables.Column.{Column}
use Rattle.mig_schema.specs.declared.tables.Table.{Table}
use Rattle.mig_schema.specs.declared.programs.Param.{Param}
use Rattle.mig_tokens.specs.Words.{IsName}
use Rattle.mig_tokens.specs.Forms.{AllOfSome}
use Rattle.mig_grammar.specs.declared.tree.ColName.{ColName}
use Rattle.mig_grammar.specs.declared.tree.LinkTree.{LinkTree}
use Rattle.mig_grammar.specs.declared.tree.SchemaTree.{SchemaTree}
use Rattle.mig_grammar.specs.declared.tree.ScalarTree.{ScalarTree}
use Rattle.mig_grammar.specs.declared.tree.ScalarTree.TheVariants as scalar
use Rattle.mig_grammar.specs.declared.tree.ValueTree.{ValueTree}
use Rattle.mig_grammar.specs.declared.tree.ValueTree.TheVariants as value
use Rattle.mig_grammar.specs.declared.tree.ItemTree.{ItemTree}
use Rattle.mig_grammar.specs.declared.tree.ItemTree.TheVariants as item
use Rattle.mig_grammar.specs.declared.tree.CmpTree.{CmpTree}
use Rattle.mig_grammar.specs.declared.tree.JoinedTree.{JoinedTree}
use Rattle.mig_grammar.specs.declared.tree.JoinTree.{JoinTree}
use Rattle.mig_grammar.specs.declared.tree.RowsTree.{RowsTree}
use Rattle.mig_grammar.specs.declared.tree.AssignTree.{AssignTree}
use Rattle.mig_grammar.specs.declared.tree.StmtTree.{StmtTree}
use Rattle.mig_grammar.specs.declared.tree.StmtTree.TheVariants as stmt
use Rattle.mig_grammar.specs.declared.tree.SelectTree.{SelectTree}
use Rattle.mig_grammar.specs.declared.tree.BodyTree.{BodyTree}
use Rattle.mig_grammar.specs.declared.tree.BodyTree.TheVariants as body
use Rattle.mig_grammar.specs.declared.tree.FunctionTree.{FunctionTree}
use Rattle.mig_grammar.specs.declared.tree.HintTree.{HintTree}
use Rattle.mig_grammar.specs.declared.tree.JobTree.{JobTree}

-- int and text, which a parameter may have
abbrev pub is_param_kind : Kind → Bool
is_param_kind kind.Key = false
is_param_kind _ = true

-- its name is one
abbrev pub IsColumn : Column → Type 0
IsColumn c = IsName c.name

-- its name is one, and it has a column
pub record IsTable (t : Table) : Type 0 where
  pub name : IsName t.name
  pub columns : AllOfSome IsColumn t.columns

-- both names are names
pub record IsCol (c : ColName) : Type 0 where
  pub table : IsName c.table
  pub column : IsName c.column

-- both columns fit
pub record IsLink (l : LinkTree) : Type 0 where
  pub left : IsCol l.left
  pub right : IsCol l.right

-- all its parts fit
pub record IsSchema (s : SchemaTree) : Type 0 where
  pub tables : AllByRecursion IsTable s.tables
  pub links : AllByRecursion IsLink s.links

-- the name of a parameter is one; ints and texts are what their tokens say
abbrev pub IsScalar : ScalarTree → Type 0
IsScalar (scalar.Name v) = IsName v
IsScalar (scalar.Int v) = Unit {0}
IsScalar (scalar.Text v) = Unit {0}

-- any int is a label here, since the limits bound it
abbrev pub IsValue : ValueTree → Type 0
IsValue (value.Scalar x) = IsScalar x
IsValue (value.Fresh v) = Unit {0}

-- a column or a scalar that fits
abbrev pub IsItem : ItemTree → Type 0
IsItem (item.Col c) = IsCol c
IsItem (item.Scalar x) = IsScalar x

-- both sides fit
pub record IsCmp (c : CmpTree) : Type 0 where
  pub left : IsItem c.left
  pub right : IsItem c.right

-- one comparison and more
abbrev pub IsCase : List CmpTree → Type 0
IsCase = AllOfSome IsCmp

-- its name is one, and both columns fit
pub record IsJoined (j : JoinedTree) : Type 0 where
  pub table : IsName j.table
  pub left : IsCol j.left
  pub right : IsCol j.right

-- the tables fit
pub record IsJoin (j : JoinTree) : Type 0 where
  pub first : IsName j.first
  pub more : AllByRecursion IsJoined j.more

-- the join and the cases fit
pub record IsRows (r : RowsTree) : Type 0 where
  pub join : IsJoin r.join
  pub cases : AllByRecursion IsCase r.cases

-- its name is one, and its kind may be a parameter's
pub record IsParam (p : Param) : Type 0 where
  pub name : IsName p.name
  pub kind : is_param_kind p.kind ≡ true

-- the column and the value fit
pub record IsAssign (a : AssignTree) : Type 0 where
  pub column : IsCol a.column
  pub value : IsValue a.value

-- an insert gives a value, a delete names a table
abbrev pub IsStmt : StmtTree → Type 0
IsStmt (stmt.Insert join values) = IsJoin join × AllOfSome IsAssign values
IsStmt (stmt.Delete tables rows) = AllOfSome IsName tables × IsRows rows
IsStmt (stmt.Set column x rows) = IsCol column × (IsScalar x × IsRows rows)

-- a column is selected
pub record IsSelect (s : SelectTree) : Type 0 where
  pub columns : AllOfSome IsCol s.columns
  pub rows : IsRows s.rows

-- an update has a statement, a query selects
abbrev pub IsBody : BodyTree → Type 0
IsBody (body.Update stmts) = AllOfSome IsStmt stmts
IsBody (body.Query select) = IsSelect select

-- its name, its parameters and its body fit
pub record IsFunction (f : FunctionTree) : Type 0 where
  pub name : IsName f.name
  pub params : AllByRecursion IsParam f.params
  pub body : IsBody f.body

-- each function fits
abbrev pub AreFunctions : List FunctionTree → Type 0
AreFunctions = AllByRecursion IsFunction

-- both columns fit; any int is a weight here, since the limits bound it
pub record IsHint (h : HintTree) : Type 0 where
  pub source : IsCol h.source
  pub target : IsCol h.target

-- each hint fits, where there are any
abbrev pub IsHints : Option (List HintTree) → Type 0
IsHints None = Unit {0}
IsHints (Some hs) = AllByRecursion IsHint hs

-- all its parts fit
pub record IsJobTree (j : JobTree) : Type 0 where
  pub source : IsSchema j.source
  pub target : IsSchema j.target
  pub functions : AllByRecursion IsFunction j.functions
  pub hints : IsHints j.hints
