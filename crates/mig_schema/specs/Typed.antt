-- The typing rules: for each rule a test of where it is broken. A schema, a program or a job is typed where no rule is broken anywhere.
use Rattle.std.specs.Prelude.{◌≡◌, ℕ, ◌==◌, nat_lt, Bool, true, false, not, ◌&&◌, ◌||◌, List, [], ◌∷◌, ◌++◌, map, length, slice_index_or}
use Rattle.std.specs.List.{list_any, flat_map, count_by, AllByRecursion}
use Rattle.std.specs.Str.{bytes_eq}
use Rattle.mig_schema.specs.declared.tables.ColId.{ColId}
use Rattle.mig_schema.specs.declared.tables.Column.{Column}
use Rattle.mig_schema.specs.declared.tables.Table.{Table}
use Rattle.mig_schema.specs.declared.tables.Link.{Link}
use Rattle.mig_schema.specs.declared.tables.Schema.{Schema}
use Rattle.mig_schema.specs.declared.tables.Kind.{Kind}
use Rattle.mig_schema.specs.declared.tables.Kind.TheVariants as kind
use Rattle.mig_schema.specs.declared.programs.Join.{Join}
use Rattle.mig_schema.specs.declared.programs.Assign.{Assign}
use Rattle.mig_schema.specs.declared.programs.Scalar.{Scalar}
use Rattle.mig_schema.specs.declared.programs.Scalar.TheVariants as scalar
use Rattle.mig_schema.specs.declared.programs.Item.{Item}
use Rattle.mig_schema.specs.declared.programs.Item.TheVariants as item
use Rattle.mig_schema.specs.declared.programs.Op.{Op}
use Rattle.mig_schema.specs.declared.programs.Op.TheVariants.{Eq, Ne, Lt, Le, Gt, Ge}
use Rattle.mig_schema.specs.declared.programs.Cmp.{Cmp}
use Rattle.mig_schema.specs.declared.programs.Cond.{Cond}
use Rattle.mig_schema.specs.declared.programs.Stmt.{Stmt}
use Rattle.mig_schema.specs.declared.programs.Stmt.TheVariants.{Insert, Delete, Set}
use Rattle.mig_schema.specs.declared.programs.Query.{Query}
use Rattle.mig_schema.specs.declared.programs.Body.{Body}
use Rattle.mig_schema.specs.declared.programs.Body.TheVariants as body
use Rattle.mig_schema.specs.declared.programs.Param.{Param}
use Rattle.mig_schema.specs.declared.programs.Function.{Function}
use Rattle.mig_schema.specs.declared.programs.Program.{Program}
use Rattle.mig_schema.specs.declared.jobs.Hint.{Hint}
use Rattle.mig_schema.specs.declared.jobs.Job.{Job}
use Rattle.mig_base.specs.Lists.{again}
use Rattle.mig_schema.specs.Columns.{columns_of, kind_of, has_table, has_column, same_col, same_kind}
use Rattle.mig_schema.specs.Joins.{tables_of, join_columns, in_one_class, is_among, all_join_on}

-- ---- schemas

-- a table has an earlier one's name
abbrev pub table_twice : Schema → (table : ℕ) → Bool
table_twice s k = again (λ (a b : Table). bytes_eq a.name b.name) s.tables k

-- a column of a table has an earlier one's name
abbrev pub column_twice : Schema → (table column : ℕ) → Bool
column_twice s t k = again (λ (a b : Column). bytes_eq a.name b.name) (columns_of s t) k

-- an end of a link names no column of the schema
abbrev pub link_end : Schema → Link → Bool
link_end s l = not (has_column s l.left && has_column s l.right)

-- both ends are in one table
abbrev pub link_tables : Link → Bool
link_tables l = l.left.table == l.right.table

-- the ends' kinds differ
abbrev pub link_kinds : Schema → Link → Bool
link_kinds s l = not (same_kind (kind_of s l.left) (kind_of s l.right))

-- no rule for schemas is broken
pub record IsTypedSchema (s : Schema) : Type 0 where
  pub tables : (k : ℕ) → table_twice s k ≡ false
  pub columns : (t k : ℕ) → column_twice s t k ≡ false
  pub ends : list_any (link_end s) s.links ≡ false
  pub apart : list_any link_tables s.links ≡ false
  pub kinds : list_any (link_kinds s) s.links ≡ false

-- ---- statements and queries

-- What the rules look at in a statement or a query: its join, the tables that a delete lists, the columns that a query selects, the values that an insert or a set writes, its comparisons, and whether it is an insert.
pub record Piece : Type 0 where
  pub join : Join
  pub listed : List ℕ
  pub selected : List ColId
  pub written : List Assign
  pub compared : List Cmp
  pub inserts : Bool

-- all comparisons of a condition
abbrev pub all_cmps : Cond → List Cmp
all_cmps c = flat_map (λ case. case) c.cases

abbrev pub piece_of : Stmt → Piece
piece_of (Insert join values) = record { join = join; listed = []; selected = []; written = values; compared = []; inserts = true }
piece_of (Delete tables join test) = record { join = join; listed = tables; selected = []; written = []; compared = all_cmps test; inserts = false }
piece_of (Set column x join test) = record { join = join; listed = []; selected = []; written = record { column = column; value = x } ∷ []; compared = all_cmps test; inserts = false }

abbrev pub query_piece : Query → Piece
query_piece q = record { join = q.join; listed = []; selected = q.columns; written = []; compared = all_cmps q.cond; inserts = false }

-- the statements of an update, or the query, which is statement 0
abbrev pub pieces_of : Body → List Piece
pieces_of (body.Update stmts) = map piece_of stmts
pieces_of (body.Query q) = query_piece q ∷ []

-- the columns among the sides of a comparison
abbrev pub item_columns : Item → List ColId
item_columns (item.Col c) = c ∷ []
item_columns (item.Scalar x) = []

-- the scalars among the sides of a comparison
abbrev pub item_scalars : Item → List Scalar
item_scalars (item.Col c) = []
item_scalars (item.Scalar x) = x ∷ []

-- the columns that a piece uses; those of its join's equalities are not among them
abbrev pub used_columns : Piece → List ColId
used_columns p = p.selected ++ map (λ a. a.column) p.written ++ flat_map (λ c. item_columns c.left ++ item_columns c.right) p.compared

-- the scalars of a piece
abbrev pub scalars_of : Piece → List Scalar
scalars_of p = map (λ a. a.value) p.written ++ flat_map (λ c. item_scalars c.left ++ item_scalars c.right) p.compared

-- all columns that a piece names
abbrev pub named_columns : Piece → List ColId
named_columns p = flat_map (λ m. m.left ∷ m.right ∷ []) p.join.more ++ used_columns p

-- all tables that a piece names, those of its columns among them
abbrev pub named_tables : Piece → List ℕ
named_tables p = tables_of p.join ++ p.listed ++ map (λ c. c.table) (named_columns p)

-- the kind of a parameter; one that is not there is an int
abbrev pub param_kind : Function → ℕ → Kind
param_kind f p = (slice_index_or f.params p (record { name = []; kind = kind.Int })).kind

-- the kind of a scalar; a fresh key has kind key
abbrev pub scalar_kind : Function → Scalar → Kind
scalar_kind f (scalar.Param p) = param_kind f p
scalar_kind f (scalar.Int i) = kind.Int
scalar_kind f (scalar.Text t) = kind.Text
scalar_kind f (scalar.Fresh n) = kind.Key

-- the kind of a side of a comparison
abbrev pub item_kind : Schema → Function → Item → Kind
item_kind s f (item.Col c) = kind_of s c
item_kind s f (item.Scalar x) = scalar_kind f x

-- whether an operator asks for an order
abbrev pub is_order : Op → Bool
is_order Eq = false
is_order Ne = false
is_order Lt = true
is_order Le = true
is_order Gt = true
is_order Ge = true

abbrev pub names_no_param : Function → Scalar → Bool
names_no_param f (scalar.Param p) = not (nat_lt p (length f.params))
names_no_param f (scalar.Int i) = false
names_no_param f (scalar.Text t) = false
names_no_param f (scalar.Fresh n) = false

-- how many of the written values are for a column of the class of c
abbrev pub values_for : Piece → ColId → ℕ
values_for p c = count_by (λ a. in_one_class p.join a.column c) p.written

-- a named table is not in the schema
abbrev pub unknown_table : Schema → Piece → Bool
unknown_table s p = list_any (λ t. not (has_table s t)) (named_tables p)

-- a named column is not in its table
abbrev pub unknown_column : Schema → Piece → Bool
unknown_column s p = list_any (λ c. not (has_column s c)) (named_columns p)

-- whether a number stands twice in a list
abbrev pub stands_twice : List ℕ → Bool
stands_twice [] = false
stands_twice (t ∷ ts) = is_among t ts || stands_twice ts

-- a table stands twice in the join or in the list of a delete
abbrev pub joined_twice : Piece → Bool
joined_twice p = stands_twice (tables_of p.join) || stands_twice p.listed

-- an equality of the join has not a column of an earlier table left and one of the joined table right, or their kinds differ
abbrev pub on_shape : Schema → Piece → Bool
on_shape s p = not (all_join_on s (p.join.first ∷ []) p.join.more)

-- a scalar names no parameter
abbrev pub unknown_parameter : Function → Piece → Bool
unknown_parameter f p = list_any (names_no_param f) (scalars_of p)

-- the table of a used column, or a deleted table, is not in the join
abbrev pub not_joined : Piece → Bool
not_joined p = list_any (λ t. not (is_among t (tables_of p.join))) (p.listed ++ map (λ c. c.table) (used_columns p))

-- the sides of a comparison, a value or a set have different kinds
abbrev pub kind_differs : Schema → Function → Piece → Bool
kind_differs s f p =
    list_any (λ a. not (same_kind (kind_of s a.column) (scalar_kind f a.value))) p.written
    || list_any (λ c. not (same_kind (item_kind s f c.left) (item_kind s f c.right))) p.compared

-- an order compares texts or keys
abbrev pub order_kind : Schema → Function → Piece → Bool
order_kind s f p = list_any (λ c. is_order c.op && not (same_kind (item_kind s f c.left) kind.Int && same_kind (item_kind s f c.right) kind.Int)) p.compared

-- a class of the columns that an insert joins has no value, or more than one
abbrev pub insert_cover : Schema → Piece → Bool
insert_cover s p = p.inserts && list_any (λ c. not (values_for p c == 1)) (join_columns s p.join)

-- no rule for statements is broken
pub record IsTypedPiece (s : Schema) (f : Function) (p : Piece) : Type 0 where
  pub tables : unknown_table s p ≡ false
  pub columns : unknown_column s p ≡ false
  pub once : joined_twice p ≡ false
  pub shape : on_shape s p ≡ false
  pub params : unknown_parameter f p ≡ false
  pub joined : not_joined p ≡ false
  pub kinds : kind_differs s f p ≡ false
  pub orders : order_kind s f p ≡ false
  pub cover : insert_cover s p ≡ false

-- ---- functions and programs

-- an earlier function has this one's name
abbrev pub function_twice : Program → (function : ℕ) → Bool
function_twice p k = again (λ (f g : Function). bytes_eq f.name g.name) p.functions k

-- a parameter has an earlier one's name
abbrev pub parameter_twice : Function → (parameter : ℕ) → Bool
parameter_twice f k = again (λ (a b : Param). bytes_eq a.name b.name) f.params k

-- no rule is broken in a function
pub record IsTypedFunction (s : Schema) (f : Function) : Type 0 where
  pub params : (k : ℕ) → parameter_twice f k ≡ false
  pub pieces : AllByRecursion (IsTypedPiece s f) (pieces_of f.body)

-- no rule for programs is broken
pub record IsTypedProgram (s : Schema) (p : Program) : Type 0 where
  pub once : (k : ℕ) → function_twice p k ≡ false
  pub functions : AllByRecursion (IsTypedFunction s) p.functions

-- ---- hints and jobs

-- an end names no column: the left one in the old, the right one in the new schema
abbrev pub hint_end : Job → Hint → Bool
hint_end j h = not (has_column j.source h.source && has_column j.target h.target)

-- the ends' kinds differ
abbrev pub hint_kinds : Job → Hint → Bool
hint_kinds j h = not (same_kind (kind_of j.source h.source) (kind_of j.target h.target))

-- an earlier hint has the same pair
abbrev pub hint_twice : Job → (hint : ℕ) → Bool
hint_twice j k = again (λ (a b : Hint). same_col a.source b.source && same_col a.target b.target) j.hints k

-- no rule for hints is broken
pub record AreTypedHints (j : Job) : Type 0 where
  pub ends : list_any (hint_end j) j.hints ≡ false
  pub kinds : list_any (hint_kinds j) j.hints ≡ false
  pub once : (k : ℕ) → hint_twice j k ≡ false

-- a job whose schemas, program and hints are typed
pub record IsTyped (j : Job) : Type 0 where
  pub source : IsTypedSchema j.source
  pub target : IsTypedSchema j.target
  pub program : IsTypedProgram j.source j.program
  pub hints : AreTypedHints j
