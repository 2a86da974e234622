-- What a statement has that its store's layout fits: each table and column is there, and each value is of its column's kind.
use Rattle.std.specs.Prelude.{◌≡◌, ℕ, ◌<◌, true, false, List, [], ◌∷◌, ◌++◌, length}
use Rattle.mig_schema.specs.declared.tables.ColId.{ColId}
use Rattle.mig_schema.specs.declared.tables.Schema.{Schema}
use Rattle.mig_schema.specs.declared.programs.Joined.{Joined}
use Rattle.mig_schema.specs.declared.programs.Join.{Join}
use Rattle.mig_schema.specs.declared.programs.Assign.{Assign}
use Rattle.mig_schema.specs.declared.programs.Item.{Item}
use Rattle.mig_schema.specs.declared.programs.Item.TheVariants as item
use Rattle.mig_schema.specs.declared.programs.Cmp.{Cmp}
use Rattle.mig_schema.specs.declared.programs.Stmt.{Stmt}
use Rattle.mig_schema.specs.declared.programs.Stmt.TheVariants.{Insert, Delete, Set}
use Rattle.mig_schema.specs.declared.programs.Body.{Body}
use Rattle.mig_schema.specs.declared.programs.Body.TheVariants as body
use Rattle.mig_schema.specs.declared.values.Value.{Value}
use Rattle.mig_schema.specs.Joins.{tables_of, is_among}
use Rattle.mig_schema.specs.Typed.{stands_twice}
use Rattle.mig_meaning.specs.Conditions.{Given, scalar_value}
use Rattle.mig_meaning.specs.Effect.{new_values}
use Rattle.mig_meaning.specs.Lists.{Each}
use Rattle.mig_meaning.specs.Rows.{JoinRow}
use Rattle.mig_meaning.specs.Values.{of_kind}
use Rattle.mig_storage.specs.Layout.{Layout, IsShort, kinds_at, kind_at, of_kinds}

-- the values of the new row of table t have its kinds, and short texts
pub record RowFits (layout : Layout) (schema : Schema) (g : Given) (ms : List Joined) (values : List Assign) (t : ℕ) : Type 0 where
  pub table : t < length layout
  pub kinds : of_kinds (kinds_at layout t) (new_values schema g ms values t) ≡ true
  pub texts : Each IsShort (new_values schema g ms values t)

-- a column of the layout
pub record IsColumn (layout : Layout) (c : ColId) : Type 0 where
  pub table : c.table < length layout
  pub within : c.column < length (kinds_at layout c.table)

-- a further table of a join behind these: its equality is of a column of an earlier one and of one of its own, of one kind
pub record JoinedFits (layout : Layout) (earlier : List ℕ) (m : Joined) : Type 0 where
  pub left : IsColumn layout m.left
  pub right : IsColumn layout m.right
  pub earlier_left : is_among m.left.table earlier ≡ true
  pub own_right : m.right.table ≡ m.table
  pub new : is_among m.table earlier ≡ false
  pub kinds : kind_at layout m.left.table m.left.column ≡ kind_at layout m.right.table m.right.column

-- the same of each further table
abbrev pub AllJoinedFit : Layout → List ℕ → List Joined → Type 0
AllJoinedFit layout earlier [] = Unit {0}
AllJoinedFit layout earlier (m ∷ ms) = JoinedFits layout earlier m × AllJoinedFit layout (earlier ++ m.table ∷ []) ms

-- a join of tables of the layout
pub record JoinFits (layout : Layout) (join : Join) : Type 0 where
  pub first : join.first < length layout
  pub more : AllJoinedFit layout (join.first ∷ []) join.more

-- a column of these tables, and a value of its kind
pub record ValueFits (layout : Layout) (tables : List ℕ) (c : ColId) (v : Value) : Type 0 where
  pub column : IsColumn layout c
  pub joined : is_among c.table tables ≡ true
  pub kind : of_kind (kind_at layout c.table c.column) v ≡ true

-- where a column is compared with a value, the value is of the column's kind
abbrev pub SidesFit : Layout → Given → List ℕ → Item → Item → Type 0
SidesFit layout g ts (item.Col c) (item.Scalar x) = ValueFits layout ts c (scalar_value g x)
SidesFit layout g ts (item.Scalar x) (item.Col c) = ValueFits layout ts c (scalar_value g x)
SidesFit layout g ts (item.Col c) (item.Col d) = Unit {0}
SidesFit layout g ts (item.Scalar x) (item.Scalar y) = Unit {0}

-- the same of each comparison
abbrev pub CasesFit : Layout → Given → List ℕ → List (List Cmp) → Type 0
CasesFit layout g ts cases = Each (Each (λ (c : Cmp). SidesFit layout g ts c.left c.right)) cases

-- listed tables of a join, each once
pub record ListedFit (tables listed : List ℕ) : Type 0 where
  pub joined : Each (λ t. is_among t tables ≡ true) listed
  pub once : stands_twice listed ≡ false

-- the rows of a choice have the kinds of their tables
abbrev pub ChoiceFits : Layout → List ℕ → JoinRow → Type 0
ChoiceFits layout [] [] = Unit {0}
ChoiceFits layout (t ∷ ts) (p ∷ e) = (of_kinds (kinds_at layout t) p.row.values ≡ true) × ChoiceFits layout ts e
ChoiceFits layout _ _ = ⊥

-- a statement fits the layout
abbrev pub StmtFits : Layout → Schema → Given → Stmt → Type 0
StmtFits layout schema g (Insert join values) = Each (RowFits layout schema g join.more values) (tables_of join)
StmtFits layout schema g (Delete listed join test) = JoinFits layout join × CasesFit layout g (tables_of join) test.cases × ListedFit (tables_of join) listed
StmtFits layout schema g (Set column x join test) = JoinFits layout join × CasesFit layout g (tables_of join) test.cases × ValueFits layout (tables_of join) column (scalar_value g x) × IsShort (scalar_value g x)

-- a function's body fits the layout
abbrev pub BodyFits : Layout → Schema → Given → Body → Type 0
BodyFits layout schema g (body.Update stmts) = Each (StmtFits layout schema g) stmts
BodyFits layout schema g (body.Query q) = JoinFits layout q.join × CasesFit layout g (tables_of q.join) q.cond.cases
