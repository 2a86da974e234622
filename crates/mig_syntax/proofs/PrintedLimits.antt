-- The tokens of printed functions pass no limit.
use Rattle.std.proofs.Common.{◌≡◌, ℕ, ◌+◌, ◌<◌, ◌≤◌, true, List, [], ◌∷◌, ◌++◌, map, length, Option, None, inl, inr, refl, sym, ap₂, ◌∙◌, subst, arith, codes, map-id}
use Rattle.std.specs.List.{AllByRecursion, sum_by}
use Rattle.std.proofs.lemmas.List.Sums.{sum_by-cons}
use Rattle.mig_schema.specs.declared.tables.ColId.{ColId}
use Rattle.mig_schema.specs.declared.tables.Schema.{Schema}
use Rattle.mig_schema.specs.declared.programs.Assign.{Assign}
use Rattle.mig_schema.specs.declared.programs.Body.{Body}
use Rattle.mig_schema.specs.declared.programs.Body.TheVariants as body
use Rattle.mig_schema.specs.declared.programs.Cmp.{Cmp}
use Rattle.mig_schema.specs.declared.programs.Cond.{Cond}
use Rattle.mig_schema.specs.declared.programs.Function.{Function}
use Rattle.mig_schema.specs.declared.programs.Item.{Item}
use Rattle.mig_schema.specs.declared.programs.Item.TheVariants as item
use Rattle.mig_schema.specs.declared.programs.Join.{Join}
use Rattle.mig_schema.specs.declared.programs.Joined.{Joined}
use Rattle.mig_schema.specs.declared.programs.Param.{Param}
use Rattle.mig_schema.specs.declared.programs.Query.{Query}
use Rattle.mig_schema.specs.declared.programs.Scalar.{Scalar}
use Rattle.mig_schema.specs.declared.programs.Scalar.TheVariants as scalar
use Rattle.mig_schema.specs.declared.programs.Stmt.{Stmt}
use Rattle.mig_schema.specs.declared.programs.Stmt.TheVariants.{Insert, Delete, Set}
use Rattle.mig_schema.specs.declared.limits.Limit.{Limit}
use Rattle.mig_schema.specs.declared.limits.Limit.TheVariants as limit
use Rattle.mig_tokens.specs.Forms.{Before, no_room, numbered, led, listed, start, word, sign, AllOfSome}
use Rattle.mig_tokens.specs.Limits.{over, full}
use Rattle.mig_tokens.specs.Marked.{Marked}
use Rattle.mig_grammar.specs.declared.tree.CmpTree.{CmpTree}
use Rattle.mig_grammar.specs.Shapes.{is_param_kind}
use Rattle.mig_grammar.specs.Spelling.{col_marked, col_tokens, scalar_marked, value_tokens, item_marked, cmp_tokens, and_tokens, one_each, case_tokens, or_tokens, where_tokens, joined_tokens, join_tokens, rows_tokens, param_tokens, assign_tokens, deleted_tokens, stmt_tokens, selected_tokens, select_tokens, body_tokens, function_tokens}
use Rattle.mig_printing.specs.Printing.{table_text}
use Rattle.mig_syntax.specs.Printable.{IsNameText}
use Rattle.mig_syntax.proofs.Alls.{all_joined, length_mapped, length_counted}
use Rattle.mig_syntax.proofs.LexingFunctions.{some_all}
use Rattle.mig_syntax.proofs.Nice.{NiceTable, NiceCol, NiceJoined, NiceJoin, NiceScalar, NiceValue, NiceItem, NiceCmp, NiceCase, NiceCases, NiceAssign, NiceStmt, NiceQuery, NiceBody, NiceFunction}
use Rattle.mig_syntax.proofs.PrintedMarks.{both_none, over_none, full_none, name_unmarked, text_unmarked, int_unmarked, label_unmarked, counted_marks, listed_marks, led_marks}
use Rattle.mig_syntax.proofs.Trees.{col_tree, joined_tree, join_tree, scalar_tree_of, value_tree_of, item_tree_of, cmp_tree, cases_tree, rows_tree, assign_tree, stmt_tree_of, select_tree, body_tree_of, function_tree}
use Rattle.mig_syntax.proofs.Unmarked.{IsUnmarked, AreUnmarked}

joined : (a b : List Marked) → AreUnmarked a → AreUnmarked b → AreUnmarked (a ++ b)
joined a b u v = all_joined IsUnmarked a b u v

-- lengths of cases do not change
same_lengths : {A B : Type 0} (f : A → B) (cs : List (List A)) → sum_by (λ (d : List A). length (map f d)) cs ≡ sum_by (λ (d : List A). length d) cs
same_lengths f [] = refl
same_lengths {A} f (c ∷ cs) =
    sum_by-cons (λ (d : List A). length (map f d)) c cs ∙ ap₂ (λ (m n : ℕ). m + n) (length_mapped f c) (same_lengths f cs) ∙ sym (sum_by-cons (λ (d : List A). length d) c cs)

-- each case has a comparison, so there are no more cases than comparisons
few_cases : {A : Type 0} (P : A → Type 0) (cs : List (List A)) → AllByRecursion (AllOfSome P) cs → length cs ≤ sum_by (λ (d : List A). length d) cs
few_cases P [] h = omega arith
few_cases P ([] ∷ cs) h = absurd h.0
few_cases {A} P ((x ∷ xs) ∷ cs) h =
    let more = few_cases P cs h.1 in
    let sum = sum_by-cons (λ (d : List A). length d) (x ∷ xs) cs in
    omega arith

module _ (s : Schema) where
  col_limits : (m : Option Limit) (c : ColId) → m ≡ None → NiceCol s c → AreUnmarked (col_marked m (col_tree s c))
  col_limits m c e n = (both_none m _ e (name_unmarked _ n.0), (refl, (name_unmarked _ n.1, tt)))

  joined_limits : (st : Before) (j : Joined) → NiceJoined s j → st.0 < 4 → AreUnmarked (joined_tokens st (joined_tree s j))
  joined_limits st j n lt = (
    over_none limit.Joined 4 st.0 lt,
    (
      name_unmarked _ n.table.0,
      (
        refl,
        joined (col_tokens (col_tree s j.left)) (sign (codes "=") ∷ col_tokens (col_tree s j.right)) (col_limits None j.left refl n.left) (refl, col_limits None j.right refl n.right),
      ),
    ),
  )

  join_limits : (j : Join) → NiceJoin s j → AreUnmarked (join_tokens (join_tree s j))
  join_limits j n = (name_unmarked _ n.first.0, counted_marks (joined_tree s) (NiceJoined s) 4 joined_tokens joined_limits 1 j.more n.more n.few_tables)

  module _ (ps : List Param) where
    scalar_limits : (m : Option Limit) (x : Scalar) → m ≡ None → NiceScalar s ps x → AreUnmarked (scalar_marked m (scalar_tree_of s ps x))
    scalar_limits m (scalar.Param p) e n = (both_none m _ e (name_unmarked _ n.0), tt)
    scalar_limits m (scalar.Int i) e n = (both_none m _ e (int_unmarked i n), tt)
    scalar_limits m (scalar.Text t) e n = (both_none m _ e (text_unmarked t n.1), tt)
    scalar_limits m (scalar.Fresh k) e n = absurd n

    value_limits : (x : Scalar) → NiceValue s ps x → AreUnmarked (value_tokens (value_tree_of s ps x))
    value_limits (scalar.Param p) n = (name_unmarked _ n.0, tt)
    value_limits (scalar.Int i) n = (int_unmarked i n, tt)
    value_limits (scalar.Text t) n = (text_unmarked t n.1, tt)
    value_limits (scalar.Fresh k) n = (refl, (label_unmarked k n, tt))

    item_limits : (m : Option Limit) (x : Item) → m ≡ None → NiceItem s ps x → AreUnmarked (item_marked m (item_tree_of s ps x))
    item_limits m (item.Col c) e n = col_limits m c e n
    item_limits m (item.Scalar x) e n = scalar_limits m x e n

    cmp_limits : (st : Before) (c : Cmp) → NiceCmp s ps c → 1 ≤ st.1 → AreUnmarked (cmp_tokens st (cmp_tree s ps c))
    cmp_limits st c n room =
        joined (item_marked (full limit.Comparisons st.1) (item_tree_of s ps c.left)) (_ ∷ item_marked None (item_tree_of s ps c.right))
        (item_limits (full limit.Comparisons st.1) c.left (full_none limit.Comparisons st.1 room) n.0) (refl, item_limits None c.right refl n.1)

    case_limits : (st : Before) (cs : List Cmp) → NiceCase s ps cs → length (map (cmp_tree s ps) cs) ≤ st.1 → AreUnmarked (case_tokens st (map (cmp_tree s ps) cs))
    case_limits st cs n room =
        let same = length_mapped (cmp_tree s ps) cs in
        let ones : sum_by (λ (c : Cmp). 1) cs ≡ length cs = length_counted cs in
        led_marks (cmp_tree s ps) one_each (NiceCmp s ps) (length cs) cmp_tokens and_tokens (λ q c k lt le. cmp_limits q c k le) (λ q c k lt le. (refl, cmp_limits q c k le)) (0, st.1) cs (some_all (NiceCmp s ps) cs n) (omega arith) (omega arith)

    where_limits : (cases : List (List Cmp)) → NiceCases s ps cases → AreUnmarked (where_tokens (cases_tree s ps cases))
    where_limits [] n = elim n [ inl e ↦ absurd cc | inr h ↦ absurd h.0 ]
    where_limits ([] ∷ []) n = tt
    where_limits ([] ∷ (d ∷ ds)) n = elim n [ inl e ↦ absurd cc | inr h ↦ absurd h.0.0 ]
    where_limits ((c ∷ cs) ∷ ds) n =
        elim n [
          | inl e ↦ absurd cc
          | inr h ↦ (refl, by ((c ∷ cs) ∷ ds) h.0 h.1)
        ]
      where
        by : (cases : List (List Cmp)) → AllByRecursion (NiceCase s ps) cases → sum_by (λ (d : List Cmp). length d) cases ≤ 16
            → AreUnmarked (led (λ (d : List CmpTree). length d) case_tokens or_tokens (0, 16) (map (λ (d : List Cmp). map (cmp_tree s ps) d) cases))
        by cases n le =
            let same = same_lengths (cmp_tree s ps) cases in
            let few = few_cases (NiceCmp s ps) cases n in
            led_marks (λ (d : List Cmp). map (cmp_tree s ps) d) (λ (d : List CmpTree). length d) (NiceCase s ps) 16 case_tokens or_tokens (λ q d k lt room. case_limits q d k room) (λ q d k lt room. (over_none limit.Cases 16 q.0 lt, case_limits q d k room)) (0, 16) cases n (omega arith) (omega arith)

    rows_limits : (j : Join) (c : Cond) → NiceJoin s j → NiceCases s ps c.cases → AreUnmarked (rows_tokens (rows_tree s ps j c))
    rows_limits j c n m =
        joined (join_tokens (join_tree s j)) (where_tokens (cases_tree s ps c.cases) ++ sign (codes ";") ∷ []) (join_limits j n) (joined (where_tokens (cases_tree s ps c.cases)) (sign (codes ";") ∷ []) (where_limits c.cases m) (refl, tt))

    assign_limits : (st : Before) (a : Assign) → NiceAssign s ps a → AreUnmarked (assign_tokens st (assign_tree s ps a))
    assign_limits st a n = joined (col_tokens (col_tree s a.column)) (sign (codes "=") ∷ value_tokens (value_tree_of s ps a.value)) (col_limits None a.column refl n.0) (refl, value_limits a.value n.1)

    stmt_limits : (st : Before) (t : Stmt) → NiceStmt s ps t → st.0 < 4 → AreUnmarked (stmt_tokens st (stmt_tree_of s ps t))
    stmt_limits st (Insert join values) n lt =
        let list = listed no_room assign_tokens start (map (assign_tree s ps) values) in
        let tail = sign (codes "}") ∷ sign (codes ";") ∷ [] in (
          over_none limit.Statements 4 st.0 lt,
          (
            refl,
            joined (join_tokens (join_tree s join)) (sign (codes "{") ∷ (list ++ tail)) (join_limits join n.0)
                (refl, joined list tail (listed_marks (assign_tree s ps) (NiceAssign s ps) (length values) assign_tokens (λ q a k below. assign_limits q a k) values (some_all (NiceAssign s ps) values n.1) (omega arith)) (refl, (refl, tt))),
          ),
        )
    stmt_limits st (Delete tables join test) n lt =
        let list = listed no_room deleted_tokens start (map (table_text s) tables) in
        let rows = rows_tokens (rows_tree s ps join test) in (
          over_none limit.Statements 4 st.0 lt,
          joined list (word (codes "from") ∷ rows) (listed_marks (table_text s) (NiceTable s) (length tables) deleted_tokens (λ q t k below. (name_unmarked _ k.0, tt)) tables (some_all (NiceTable s) tables n.0) (omega arith))
              (refl, rows_limits join test n.1.0 n.1.1),
        )
    stmt_limits st (Set column x join test) n lt =
        let rows = rows_tokens (rows_tree s ps join test) in
        let value = scalar_marked None (scalar_tree_of s ps x) in (
          over_none limit.Statements 4 st.0 lt,
          joined (col_tokens (col_tree s column)) (sign (codes "=") ∷ (value ++ word (codes "in") ∷ rows)) (col_limits None column refl n.0.0)
              (refl, joined value (word (codes "in") ∷ rows) (scalar_limits None x refl n.0.1) (refl, rows_limits join test n.1.0 n.1.1)),
        )

    query_limits : (q : Query) → NiceQuery s ps q → AreUnmarked (select_tokens (select_tree s ps q))
    query_limits q n =
        let list = listed no_room selected_tokens start (map (col_tree s) q.columns) in
        let rows = rows_tokens (rows_tree s ps q.join q.cond) in (
          refl,
          joined list (word (codes "from") ∷ rows)
              (listed_marks (col_tree s) (NiceCol s) 16 selected_tokens (λ p c k lt. col_limits (over limit.Selected 16 p.0) c (over_none limit.Selected 16 p.0 lt) k) q.columns (some_all (NiceCol s) q.columns n.columns) n.few_columns)
              (refl, rows_limits q.join q.cond n.join n.cases),
        )

    body_limits : (b : Body) → NiceBody s ps b → AreUnmarked (body_tokens (body_tree_of s ps b))
    body_limits (body.Update []) n = absurd n.0
    body_limits (body.Update (t ∷ ts)) n = counted_marks (stmt_tree_of s ps) (NiceStmt s ps) 4 stmt_tokens stmt_limits 0 (t ∷ ts) n.0 (let le = n.1 in omega arith)
    body_limits (body.Query q) n = query_limits q n

  param_limits : (st : Before) (p : Param) → IsNameText p.name × (is_param_kind p.kind ≡ true) → st.0 < 8 → AreUnmarked (param_tokens st p)
  param_limits st p n lt = (both_none _ _ (over_none limit.Parameters 8 st.0 lt) (name_unmarked p.name n.0), (refl, (refl, tt)))

  function_limits : (st : Before) (f : Function) → NiceFunction s f → st.0 < 32 → AreUnmarked (function_tokens st (function_tree s f))
  function_limits st f n lt =
      let list = listed no_room param_tokens start f.params in
      let lines = body_tokens (body_tree_of s f.params f.body) in (
        over_none limit.Functions 32 st.0 lt,
        (
          name_unmarked f.name n.name,
          (
            refl,
            joined list (sign (codes ")") ∷ sign (codes "{") ∷ (lines ++ sign (codes "}") ∷ []))
                (subst (λ (qs : List Param). AreUnmarked (listed no_room param_tokens start qs)) (map-id f.params) (listed_marks (λ (p : Param). p) (λ (p : Param). IsNameText p.name × (is_param_kind p.kind ≡ true)) 8 param_tokens param_limits f.params n.params n.few_params))
                (refl, (refl, joined lines (sign (codes "}") ∷ []) (body_limits f.params f.body n.body) (refl, tt))),
          ),
        ),
      )

  pub functions_limits : (fs : List Function) → AllByRecursion (NiceFunction s) fs → length fs ≤ 32 → AreUnmarked (numbered no_room function_tokens start (map (function_tree s) fs))
  functions_limits fs n few = counted_marks (function_tree s) (NiceFunction s) 32 function_tokens function_limits 0 fs n (omega arith)
