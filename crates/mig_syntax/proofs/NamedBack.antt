-- The trees that programs are printed from say these programs.
use Rattle.std.proofs.Common.{◌≡◌, ℕ, ◌<◌, ◌≤◌, false, ℤ, List, [], ◌∷◌, map, length, Option, inl, inr, refl, ap, ap₂, ◌∙◌, arith}
use Rattle.std.specs.List.{AllByRecursion}
use Rattle.std.specs.Option.{option_map_or}
use Rattle.std.specs.Str.{bytes_eq}
use Rattle.mig_schema.specs.Columns as known
use Rattle.mig_schema.specs.Columns.{no_table, no_column, table_at, column_at}
use Rattle.mig_schema.specs.declared.tables.ColId.{ColId}
use Rattle.mig_schema.specs.declared.tables.Column.{Column}
use Rattle.mig_schema.specs.declared.tables.Kind.TheVariants as kind
use Rattle.mig_schema.specs.declared.tables.Schema.{Schema}
use Rattle.mig_schema.specs.declared.tables.Table.{Table}
use Rattle.mig_schema.specs.declared.programs.Assign.{Assign}
use Rattle.mig_schema.specs.declared.programs.Body.{Body}
use Rattle.mig_schema.specs.declared.programs.Body.TheVariants as body
use Rattle.mig_schema.specs.declared.programs.Cmp.{Cmp}
use Rattle.mig_schema.specs.declared.programs.Cond.{Cond}
use Rattle.mig_schema.specs.declared.programs.Function.{Function}
use Rattle.mig_schema.specs.declared.programs.Item.{Item}
use Rattle.mig_schema.specs.declared.programs.Item.TheVariants as item
use Rattle.mig_schema.specs.declared.programs.Join.{Join}
use Rattle.mig_schema.specs.declared.programs.Joined.{Joined}
use Rattle.mig_schema.specs.declared.programs.Param.{Param}
use Rattle.mig_schema.specs.declared.programs.Program.{Program}
use Rattle.mig_schema.specs.declared.programs.Query.{Query}
use Rattle.mig_schema.specs.declared.programs.Scalar.{Scalar}
use Rattle.mig_schema.specs.declared.programs.Scalar.TheVariants as scalar
use Rattle.mig_schema.specs.declared.programs.Stmt.{Stmt}
use Rattle.mig_schema.specs.declared.programs.Stmt.TheVariants.{Insert, Delete, Set}
use Rattle.mig_base.specs.Lists.{again}
use Rattle.mig_printing.specs.Printing.{table_text, param_name}
use Rattle.mig_syntax.specs.Naming.{table_of, columns_of, col_of, param_of, number_of, scalar_of, value_of, item_of, cmp_of, cond_of, assign_of, joined_of, join_of, stmt_of, query_of, body_of, function_of, program_of}
use Rattle.mig_syntax.proofs.FirstOfName.{number_back, item_back}
use Rattle.mig_syntax.proofs.LexingFunctions.{some_all}
use Rattle.mig_syntax.proofs.Nice.{NiceTable, KnownCol, NiceCol, NiceJoined, NiceJoin, NiceScalar, NiceValue, NiceItem, NiceCmp, NiceCase, NiceCases, NiceAssign, NiceStmt, NiceQuery, NiceBody, NiceFunction}
use Rattle.mig_syntax.proofs.PrintedMarks.{int_back, label_back}
use Rattle.mig_syntax.proofs.Trees.{col_tree, joined_tree, join_tree, scalar_tree_of, value_tree_of, item_tree_of, cmp_tree, cases_tree, assign_tree, stmt_tree_of, select_tree, body_tree_of, function_tree, trees_of}

back_mapped : {A B : Type 0} (Good : A → Type 0) (g : A → B) (f : B → A) → ((x : A) → Good x → f (g x) ≡ x) → (xs : List A) → AllByRecursion Good xs → map f (map g xs) ≡ xs
back_mapped Good g f one [] h = refl
back_mapped {A} Good g f one (x ∷ xs) h = ap₂ (λ (y : A) (ys : List A). y ∷ ys) (one x h.0) (back_mapped Good g f one xs h.1)

-- no two tables have one name, nor two columns of a table, and there are fewer than 2^32
pub record HasNames (s : Schema) : Type 0 where
  pub tables : (k : ℕ) → again (λ (a b : Table). bytes_eq a.name b.name) s.tables k ≡ false
  pub columns : (t k : ℕ) → again (λ (a b : Column). bytes_eq a.name b.name) (known.columns_of s t) k ≡ false
  pub few_tables : length s.tables < 4294967296
  pub few_columns : (t : ℕ) → t < length s.tables → length (known.columns_of s t) < 4294967296

-- no two parameters have one name, and there are at most 8
pub record HasParams (ps : List Param) : Type 0 where
  pub once : (k : ℕ) → again (λ (a b : Param). bytes_eq a.name b.name) ps k ≡ false
  pub few_params : length ps ≤ 8

abbrev pub GoodFunction : Schema → Function → Type 0
GoodFunction s f = NiceFunction s f × HasParams f.params

module _ (s : Schema) (names : HasNames s) where
  table_back : (t : ℕ) → t < length s.tables → table_of s.tables (table_text s t) ≡ t
  table_back t lt = number_back (λ (u : Table). u.name) s.tables t no_table lt names.few_tables (names.tables t)

  columns_back : (t : ℕ) → t < length s.tables → columns_of s.tables (table_text s t) ≡ known.columns_of s t
  columns_back t lt = ap (λ (o : Option Table). option_map_or (λ (u : Table). u.columns) o []) (item_back (λ (u : Table). u.name) s.tables t no_table lt (names.tables t))

  col_back : (c : ColId) → KnownCol s c → col_of s.tables (col_tree s c) ≡ c
  col_back c k =
      ap₂ (λ (t n : ℕ). record { table = t; column = n }) (table_back c.table k.0)
      (ap (λ (cs : List Column). number_of (λ (d : Column). bytes_eq d.name (column_at s c).name) cs) (columns_back c.table k.0)
      ∙ number_back (λ (d : Column). d.name) (known.columns_of s c.table) c.column no_column k.1 (names.few_columns c.table k.0) (names.columns c.table c.column))

  -- ---- joins

  joined_back : (j : Joined) → NiceJoined s j → joined_of s.tables (joined_tree s j) ≡ j
  joined_back j n =
      ap₂ (λ (t : ℕ) (c : ColId). record { table = t; left = c; right = col_of s.tables (col_tree s j.right) }) (table_back j.table n.table.1) (col_back j.left n.left.2)
      ∙ ap (λ (c : ColId). record { table = j.table; left = j.left; right = c }) (col_back j.right n.right.2)

  join_back : (j : Join) → NiceJoin s j → join_of s.tables (join_tree s j) ≡ j
  join_back j n = ap₂ (λ (t : ℕ) (m : List Joined). record { first = t; more = m }) (table_back j.first n.first.1) (back_mapped (NiceJoined s) (joined_tree s) (joined_of s.tables) joined_back j.more n.more)

  module _ (ps : List Param) (params : HasParams ps) where
    param_back : (p : ℕ) → p < length ps → param_of ps (param_name ps p) ≡ p
    param_back p lt = number_back (λ (q : Param). q.name) ps p (record { name = []; kind = kind.Int }) lt (let few = params.few_params in omega arith) (params.once p)

    -- ---- scalars and conditions

    scalar_back : (x : Scalar) → NiceScalar s ps x → scalar_of ps (scalar_tree_of s ps x) ≡ x
    scalar_back (scalar.Param p) n = ap (λ (q : ℕ). scalar.Param q) (param_back p n.1)
    scalar_back (scalar.Int i) n = ap (λ (k : ℤ). scalar.Int k) (int_back i n)
    scalar_back (scalar.Text t) n = refl
    scalar_back (scalar.Fresh k) n = absurd n

    value_back : (x : Scalar) → NiceValue s ps x → value_of ps (value_tree_of s ps x) ≡ x
    value_back (scalar.Param p) n = ap (λ (q : ℕ). scalar.Param q) (param_back p n.1)
    value_back (scalar.Int i) n = ap (λ (k : ℤ). scalar.Int k) (int_back i n)
    value_back (scalar.Text t) n = refl
    value_back (scalar.Fresh k) n = ap (λ (m : ℕ). scalar.Fresh m) (label_back k n)

    side_back : (x : Item) → NiceItem s ps x → item_of s.tables ps (item_tree_of s ps x) ≡ x
    side_back (item.Col c) n = ap (λ (d : ColId). item.Col d) (col_back c n.2)
    side_back (item.Scalar x) n = ap (λ (y : Scalar). item.Scalar y) (scalar_back x n)

    cmp_back : (c : Cmp) → NiceCmp s ps c → cmp_of s.tables ps (cmp_tree s ps c) ≡ c
    cmp_back c n = ap₂ (λ (l r : Item). record { op = c.op; left = l; right = r }) (side_back c.left n.0) (side_back c.right n.1)

    case_back : (cs : List Cmp) → NiceCase s ps cs → map (cmp_of s.tables ps) (map (cmp_tree s ps) cs) ≡ cs
    case_back cs n = back_mapped (NiceCmp s ps) (cmp_tree s ps) (cmp_of s.tables ps) cmp_back cs (some_all (NiceCmp s ps) cs n)

    cases_back : (cases : List (List Cmp)) → NiceCases s ps cases → cond_of s.tables ps (cases_tree s ps cases) ≡ record { cases = cases }
    cases_back [] n = elim n [ inl e ↦ absurd cc | inr h ↦ absurd h.0 ]
    cases_back ([] ∷ []) n = refl
    cases_back ([] ∷ (d ∷ ds)) n = elim n [ inl e ↦ absurd cc | inr h ↦ absurd h.0.0 ]
    cases_back ((c ∷ cs) ∷ ds) n =
        elim n [
          | inl e ↦ absurd cc
          | inr h ↦ ap (λ (x : List (List Cmp)). record { cases = x }) (back_mapped (NiceCase s ps) (λ (d : List Cmp). map (cmp_tree s ps) d) (λ d. map (cmp_of s.tables ps) d) case_back ((c ∷ cs) ∷ ds) h.0)
        ]

    cond_back : (c : Cond) → NiceCases s ps c.cases → cond_of s.tables ps (cases_tree s ps c.cases) ≡ c
    cond_back c n = cases_back c.cases n

    -- ---- statements

    assign_back : (a : Assign) → NiceAssign s ps a → assign_of s.tables ps (assign_tree s ps a) ≡ a
    assign_back a n = ap₂ (λ (c : ColId) (x : Scalar). record { column = c; value = x }) (col_back a.column n.0.2) (value_back a.value n.1)

    stmt_back : (t : Stmt) → NiceStmt s ps t → stmt_of s.tables ps (stmt_tree_of s ps t) ≡ t
    stmt_back (Insert join values) n =
        ap₂ (λ (j : Join) (vs : List Assign). Insert j vs) (join_back join n.0) (back_mapped (NiceAssign s ps) (assign_tree s ps) (assign_of s.tables ps) assign_back values (some_all (NiceAssign s ps) values n.1))
    stmt_back (Delete tables join test) n =
        ap₂ (λ (ts : List ℕ) (j : Join). Delete ts j (cond_of s.tables ps (cases_tree s ps test.cases))) (back_mapped (NiceTable s) (table_text s) (table_of s.tables) (λ t k. table_back t k.1) tables (some_all (NiceTable s) tables n.0)) (join_back join n.1.0)
        ∙ ap (λ (c : Cond). Delete tables join c) (cond_back test n.1.1)
    stmt_back (Set column x join test) n =
        ap₂ (λ (c : ColId) (y : Scalar). Set c y (join_of s.tables (join_tree s join)) (cond_of s.tables ps (cases_tree s ps test.cases))) (col_back column n.0.0.2) (scalar_back x n.0.1)
        ∙ ap₂ (λ (j : Join) (c : Cond). Set column x j c) (join_back join n.1.0) (cond_back test n.1.1)

    query_back : (q : Query) → NiceQuery s ps q → query_of s.tables ps (select_tree s ps q) ≡ q
    query_back q n =
        ap₂ (λ (cs : List ColId) (j : Join). record { columns = cs; join = j; cond = cond_of s.tables ps (cases_tree s ps q.cond.cases) }) (back_mapped (NiceCol s) (col_tree s) (col_of s.tables) (λ c k. col_back c k.2) q.columns (some_all (NiceCol s) q.columns n.columns)) (join_back q.join n.join)
        ∙ ap (λ (c : Cond). record { columns = q.columns; join = q.join; cond = c }) (cond_back q.cond n.cases)

    body_back : (b : Body) → NiceBody s ps b → body_of s.tables ps (body_tree_of s ps b) ≡ b
    body_back (body.Update stmts) n = ap (λ (ts : List Stmt). body.Update ts) (back_mapped (NiceStmt s ps) (stmt_tree_of s ps) (stmt_of s.tables ps) stmt_back stmts (some_all (NiceStmt s ps) stmts n.0))
    body_back (body.Query q) n = ap (λ (r : Query). body.Query r) (query_back q n)

  -- ---- functions

  function_back : (f : Function) → GoodFunction s f → function_of s.tables (function_tree s f) ≡ f
  function_back f n = ap (λ (b : Body). record { name = f.name; params = f.params; body = b }) (body_back f.params n.1 f.body n.0.body)

  pub program_back : (p : Program) → AllByRecursion (GoodFunction s) p.functions → program_of s.tables (trees_of s p) ≡ p
  program_back p n = ap (λ (fs : List Function). record { functions = fs }) (back_mapped (GoodFunction s) (function_tree s) (function_of s.tables) function_back p.functions n)
