-- The trees that programs are printed from have the shapes of the grammar.
use Rattle.std.proofs.Common.{◌≡◌, true, List, [], ◌∷◌, map, inl, inr}
use Rattle.std.specs.List.{AllByRecursion}
use Rattle.mig_schema.specs.declared.tables.ColId.{ColId}
use Rattle.mig_schema.specs.declared.tables.Schema.{Schema}
use Rattle.mig_schema.specs.declared.programs.Assign.{Assign}
use Rattle.mig_schema.specs.declared.programs.Body.{Body}
use Rattle.mig_schema.specs.declared.programs.Body.TheVariants as body
use Rattle.mig_schema.specs.declared.programs.Cmp.{Cmp}
use Rattle.mig_schema.specs.declared.programs.Cond.{Cond}
use Rattle.mig_schema.specs.declared.programs.Function.{Function}
use Rattle.mig_schema.specs.declared.programs.Item.{Item}
use Rattle.mig_schema.specs.declared.programs.Item.TheVariants as item
use Rattle.mig_schema.specs.declared.programs.Join.{Join}
use Rattle.mig_schema.specs.declared.programs.Joined.{Joined}
use Rattle.mig_schema.specs.declared.programs.Param.{Param}
use Rattle.mig_schema.specs.declared.programs.Query.{Query}
use Rattle.mig_schema.specs.declared.programs.Scalar.{Scalar}
use Rattle.mig_schema.specs.declared.programs.Scalar.TheVariants as scalar
use Rattle.mig_schema.specs.declared.programs.Stmt.{Stmt}
use Rattle.mig_schema.specs.declared.programs.Stmt.TheVariants.{Insert, Delete, Set}
use Rattle.mig_tokens.specs.Forms.{AllOfSome}
use Rattle.mig_tokens.specs.Words.{IsName}
use Rattle.mig_grammar.specs.Shapes.{IsCol, IsScalar, IsValue, IsItem, IsCmp, IsCase, IsJoined, IsJoin, IsRows, IsParam, is_param_kind, IsAssign, IsStmt, IsSelect, IsBody, IsFunction, AreFunctions}
use Rattle.mig_printing.specs.Printing.{table_text}
use Rattle.mig_syntax.specs.Printable.{IsNameText}
use Rattle.mig_syntax.proofs.Alls.{all_mapped}
use Rattle.mig_syntax.proofs.Nice.{NiceTable, NiceCol, NiceJoined, NiceJoin, NiceScalar, NiceValue, NiceItem, NiceCmp, NiceCase, NiceCases, NiceAssign, NiceStmt, NiceQuery, NiceBody, NiceFunction}
use Rattle.mig_syntax.proofs.Trees.{col_tree, joined_tree, join_tree, scalar_tree_of, value_tree_of, item_tree_of, cmp_tree, cases_tree, rows_tree, assign_tree, stmt_tree_of, select_tree, body_tree_of, function_tree}

some_mapped : {A B : Type 0} (P : A → Type 0) (Q : B → Type 0) (f : A → B) → ((x : A) → P x → Q (f x)) → (xs : List A) → AllOfSome P xs → AllOfSome Q (map f xs)
some_mapped P Q f one [] h = absurd h
some_mapped P Q f one (x ∷ xs) h = (one x h.0, all_mapped P Q f one xs h.1)

module _ (s : Schema) where
  col_shape : (c : ColId) → NiceCol s c → IsCol (col_tree s c)
  col_shape c n = record { table = n.0.free; column = n.1.free }

  joined_shape : (j : Joined) → NiceJoined s j → IsJoined (joined_tree s j)
  joined_shape j n = record { table = n.table.0.free; left = col_shape j.left n.left; right = col_shape j.right n.right }

  join_shape : (j : Join) → NiceJoin s j → IsJoin (join_tree s j)
  join_shape j n = record { first = n.first.0.free; more = all_mapped (NiceJoined s) IsJoined (joined_tree s) joined_shape j.more n.more }

  module _ (ps : List Param) where
    scalar_shape : (x : Scalar) → NiceScalar s ps x → IsScalar (scalar_tree_of s ps x)
    scalar_shape (scalar.Param p) n = n.0.free
    scalar_shape (scalar.Int i) n = tt
    scalar_shape (scalar.Text t) n = tt
    scalar_shape (scalar.Fresh k) n = absurd n

    value_shape : (x : Scalar) → NiceValue s ps x → IsValue (value_tree_of s ps x)
    value_shape (scalar.Param p) n = n.0.free
    value_shape (scalar.Int i) n = tt
    value_shape (scalar.Text t) n = tt
    value_shape (scalar.Fresh k) n = tt

    item_shape : (x : Item) → NiceItem s ps x → IsItem (item_tree_of s ps x)
    item_shape (item.Col c) n = col_shape c n
    item_shape (item.Scalar x) n = scalar_shape x n

    cmp_shape : (c : Cmp) → NiceCmp s ps c → IsCmp (cmp_tree s ps c)
    cmp_shape c n = record { left = item_shape c.left n.0; right = item_shape c.right n.1 }

    case_shape : (cs : List Cmp) → NiceCase s ps cs → IsCase (map (cmp_tree s ps) cs)
    case_shape cs n = some_mapped (NiceCmp s ps) IsCmp (cmp_tree s ps) cmp_shape cs n

    cases_shape : (cases : List (List Cmp)) → NiceCases s ps cases → AllByRecursion IsCase (cases_tree s ps cases)
    cases_shape [] n = elim n [ inl e ↦ absurd cc | inr h ↦ absurd h.0 ]
    cases_shape ([] ∷ []) n = tt
    cases_shape ([] ∷ (d ∷ ds)) n = elim n [ inl e ↦ absurd cc | inr h ↦ absurd h.0.0 ]
    cases_shape ((c ∷ cs) ∷ ds) n =
        elim n [
          | inl e ↦ absurd cc
          | inr h ↦ all_mapped (NiceCase s ps) IsCase (λ (d : List Cmp). map (cmp_tree s ps) d) case_shape ((c ∷ cs) ∷ ds) h.0
        ]

    rows_shape : (j : Join) (c : Cond) → NiceJoin s j → NiceCases s ps c.cases → IsRows (rows_tree s ps j c)
    rows_shape j c n m = record { join = join_shape j n; cases = cases_shape c.cases m }

    assign_shape : (a : Assign) → NiceAssign s ps a → IsAssign (assign_tree s ps a)
    assign_shape a n = record { column = col_shape a.column n.0; value = value_shape a.value n.1 }

    stmt_shape : (t : Stmt) → NiceStmt s ps t → IsStmt (stmt_tree_of s ps t)
    stmt_shape (Insert join values) n = (join_shape join n.0, some_mapped (NiceAssign s ps) IsAssign (assign_tree s ps) assign_shape values n.1)
    stmt_shape (Delete tables join test) n = (some_mapped (NiceTable s) IsName (table_text s) (λ t k. k.0.free) tables n.0, rows_shape join test n.1.0 n.1.1)
    stmt_shape (Set column x join test) n = (col_shape column n.0.0, (scalar_shape x n.0.1, rows_shape join test n.1.0 n.1.1))

    query_shape : (q : Query) → NiceQuery s ps q → IsSelect (select_tree s ps q)
    query_shape q n = record { columns = some_mapped (NiceCol s) IsCol (col_tree s) col_shape q.columns n.columns; rows = rows_shape q.join q.cond n.join n.cases }

    body_shape : (b : Body) → NiceBody s ps b → IsBody (body_tree_of s ps b)
    body_shape (body.Update stmts) n = some_mapped (NiceStmt s ps) IsStmt (stmt_tree_of s ps) stmt_shape stmts n.0
    body_shape (body.Query q) n = query_shape q n

  params_shape : (ps : List Param) → AllByRecursion (λ (p : Param). IsNameText p.name × (is_param_kind p.kind ≡ true)) ps → AllByRecursion IsParam ps
  params_shape [] n = tt
  params_shape (p ∷ ps) n = (record { name = n.0.0.free; kind = n.0.1 }, params_shape ps n.1)

  function_shape : (f : Function) → NiceFunction s f → IsFunction (function_tree s f)
  function_shape f n = record { name = n.name.free; params = params_shape f.params n.params; body = body_shape f.params f.body n.body }

  pub functions_shape : (fs : List Function) → AllByRecursion (NiceFunction s) fs → AreFunctions (map (function_tree s) fs)
  functions_shape fs n = all_mapped (NiceFunction s) IsFunction (function_tree s) function_shape fs n
