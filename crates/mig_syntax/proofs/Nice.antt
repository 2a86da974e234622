-- What the parts of a program must be so that their texts are read back: all names are names, and all limits are kept.
use Rattle.std.proofs.Common.{◌≡◌, ◌⊎◌, ℕ, ◌+◌, ◌<◌, ◌≤◌, true, List, [], ◌∷◌, length}
use Rattle.std.specs.List.{AllByRecursion, sum_by}
use Rattle.std.specs.Str.{is_utf8}
use Rattle.mig_schema.specs.Columns.{columns_of, column_at}
use Rattle.mig_schema.specs.declared.tables.ColId.{ColId}
use Rattle.mig_schema.specs.declared.tables.Schema.{Schema}
use Rattle.mig_schema.specs.declared.programs.Assign.{Assign}
use Rattle.mig_schema.specs.declared.programs.Body.{Body}
use Rattle.mig_schema.specs.declared.programs.Body.TheVariants as body
use Rattle.mig_schema.specs.declared.programs.Cmp.{Cmp}
use Rattle.mig_schema.specs.declared.programs.Function.{Function}
use Rattle.mig_schema.specs.declared.programs.Item.{Item}
use Rattle.mig_schema.specs.declared.programs.Item.TheVariants as item
use Rattle.mig_schema.specs.declared.programs.Join.{Join}
use Rattle.mig_schema.specs.declared.programs.Joined.{Joined}
use Rattle.mig_schema.specs.declared.programs.Param.{Param}
use Rattle.mig_schema.specs.declared.programs.Query.{Query}
use Rattle.mig_schema.specs.declared.programs.Scalar.{Scalar}
use Rattle.mig_schema.specs.declared.programs.Scalar.TheVariants as scalar
use Rattle.mig_schema.specs.declared.programs.Stmt.{Stmt}
use Rattle.mig_schema.specs.declared.programs.Stmt.TheVariants.{Insert, Delete, Set}
use Rattle.mig_tokens.specs.Forms.{AllOfSome}
use Rattle.mig_grammar.specs.Shapes.{is_param_kind}
use Rattle.mig_printing.specs.Printing.{table_text, param_name}
use Rattle.mig_syntax.specs.Printable.{IsNameText}
use Rattle.mig_schema.specs.Within.{FitsInt}

module _ (s : Schema) where
  abbrev pub NiceTable : ℕ → Type 0
  NiceTable t = IsNameText (table_text s t) × (t < length s.tables)

  -- a column that is there
  abbrev pub KnownCol : ColId → Type 0
  KnownCol c = (c.table < length s.tables) × (c.column < length (columns_of s c.table))

  abbrev pub NiceCol : ColId → Type 0
  NiceCol c = IsNameText (table_text s c.table) × IsNameText (column_at s c).name × KnownCol c

  pub record NiceJoined (j : Joined) : Type 0 where
    pub table : NiceTable j.table
    pub left : NiceCol j.left
    pub right : NiceCol j.right

  pub record NiceJoin (j : Join) : Type 0 where
    pub first : NiceTable j.first
    pub more : AllByRecursion NiceJoined j.more
    pub few_tables : 1 + length j.more ≤ 4

  module _ (ps : List Param) where
    abbrev pub NiceScalar : Scalar → Type 0
    NiceScalar (scalar.Param p) = IsNameText (param_name ps p) × (p < length ps)
    NiceScalar (scalar.Int i) = FitsInt i
    NiceScalar (scalar.Text t) = (is_utf8 t ≡ true) × (length t ≤ 1024)
    NiceScalar (scalar.Fresh n) = ⊥

    abbrev pub NiceValue : Scalar → Type 0
    NiceValue (scalar.Param p) = IsNameText (param_name ps p) × (p < length ps)
    NiceValue (scalar.Int i) = FitsInt i
    NiceValue (scalar.Text t) = (is_utf8 t ≡ true) × (length t ≤ 1024)
    NiceValue (scalar.Fresh n) = n ≤ 15

    abbrev pub NiceItem : Item → Type 0
    NiceItem (item.Col c) = NiceCol c
    NiceItem (item.Scalar x) = NiceScalar x

    abbrev pub NiceCmp : Cmp → Type 0
    NiceCmp c = NiceItem c.left × NiceItem c.right

    abbrev pub NiceCase : List Cmp → Type 0
    NiceCase = AllOfSome NiceCmp

    abbrev pub NiceCases : List (List Cmp) → Type 0
    NiceCases cases = (cases ≡ [] ∷ []) ⊎ (AllOfSome NiceCase cases × (sum_by (λ (c : List Cmp). length c) cases ≤ 16))

    abbrev pub NiceAssign : Assign → Type 0
    NiceAssign a = NiceCol a.column × NiceValue a.value

    abbrev pub NiceStmt : Stmt → Type 0
    NiceStmt (Insert join values) = NiceJoin join × AllOfSome NiceAssign values
    NiceStmt (Delete tables join test) = AllOfSome NiceTable tables × (NiceJoin join × NiceCases test.cases)
    NiceStmt (Set column x join test) = (NiceCol column × NiceScalar x) × (NiceJoin join × NiceCases test.cases)

    pub record NiceQuery (q : Query) : Type 0 where
      pub columns : AllOfSome NiceCol q.columns
      pub few_columns : length q.columns ≤ 16
      pub join : NiceJoin q.join
      pub cases : NiceCases q.cond.cases

    abbrev pub NiceBody : Body → Type 0
    NiceBody (body.Update stmts) = AllOfSome NiceStmt stmts × (length stmts ≤ 4)
    NiceBody (body.Query q) = NiceQuery q

  pub record NiceFunction (f : Function) : Type 0 where
    pub name : IsNameText f.name
    pub params : AllByRecursion (λ (p : Param). IsNameText p.name × (is_param_kind p.kind ≡ true)) f.params
    pub few_params : length f.params ≤ 8
    pub body : NiceBody f.params f.body
