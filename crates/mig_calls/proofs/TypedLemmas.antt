-- A typed function fits the layout of its schema.
use Rattle.std.proofs.Common.{◌≡◌, ℕ, zero, suc, ◌<◌, true, false, not, ◌&&◌, List, [], ◌∷◌, ◌++◌, map, get_or, length, refl, sym, ap, ◌∙◌, arith}
use Rattle.std.specs.Prelude.{◌==◌, nat_lt}
use Rattle.std.specs.List.{list_all, flat_map}
use Rattle.std.proofs.lemmas.Bool.{and_parts, and_from, or_parts, not-false, eqb-true, eq-eqb, ltb-true, or_from}
use Rattle.std.proofs.lemmas.List.{length-map}
use Rattle.mig_schema.specs.declared.tables.ColId.{ColId}
use Rattle.mig_schema.specs.declared.tables.Column.{Column}
use Rattle.mig_schema.specs.declared.tables.Kind.TheVariants as kind
use Rattle.mig_schema.specs.declared.tables.Table.{Table}
use Rattle.mig_schema.specs.declared.tables.Schema.{Schema}
use Rattle.mig_schema.specs.declared.programs.Join.{Join}
use Rattle.mig_schema.specs.declared.programs.Joined.{Joined}
use Rattle.mig_schema.specs.declared.programs.Assign.{Assign}
use Rattle.mig_schema.specs.declared.programs.Item.{Item}
use Rattle.mig_schema.specs.declared.programs.Item.TheVariants as item
use Rattle.mig_schema.specs.declared.programs.Cmp.{Cmp}
use Rattle.mig_schema.specs.declared.programs.Stmt.{Stmt}
use Rattle.mig_schema.specs.declared.programs.Stmt.TheVariants.{Insert, Delete, Set}
use Rattle.mig_schema.specs.declared.programs.Body.{Body}
use Rattle.mig_schema.specs.declared.programs.Body.TheVariants as body
use Rattle.mig_schema.specs.declared.programs.Function.{Function}
use Rattle.mig_schema.specs.Columns.{columns_of, has_column, has_table, kind_of, no_column, same_kind}
use Rattle.mig_schema.specs.Joins.{tables_of, is_among, joins_on, all_join_on}
use Rattle.mig_schema.specs.Typed.{Piece, piece_of, query_piece, pieces_of, scalars_of, used_columns, named_columns, named_tables, item_columns, item_scalars, item_kind, scalar_kind, names_no_param, stands_twice, IsTypedPiece, IsTypedFunction}
use Rattle.mig_meaning.specs.declared.states.Placed.{Placed}
use Rattle.mig_meaning.specs.Calls.{IsGivenTo}
use Rattle.mig_meaning.specs.Conditions.{Given, scalar_value}
use Rattle.mig_meaning.specs.Effect.{new_values, with_rows}
use Rattle.mig_meaning.specs.Lists.{Each}
use Rattle.mig_meaning.specs.Rows.{empty_state}
use Rattle.mig_meaning.specs.States.{IsState, label_fits, labels_fit, row_fits}
use Rattle.mig_meaning.specs.Values.{of_kind}
use Rattle.mig_meaning.proofs.StateLaw.{each-in, empty-state}
use Rattle.mig_meaning.proofs.TypedWrites.{state-law}
use Rattle.mig_meaning.proofs.Within.{each-weaker}
use Rattle.mig_storage.specs.Layout.{Layout, IsShort, layout_of, kinds_at, kind_at, of_kinds}
use Rattle.mig_storage.proofs.StateLemmas.{row_fits-kinds, kinds_at-schema}
use Rattle.mig_calls.specs.Calling.{HasShortTexts, IsShortScalar}
use Rattle.mig_calls.specs.Fits.{RowFits, IsColumn, AllJoinedFit, JoinFits, SidesFit, CasesFit, StmtFits, BodyFits}
use Rattle.mig_calls.proofs.ChangeLemmas.{same-bool}
use Rattle.mig_meaning.proofs.Lists.{by-recursion, each-back, each-both, each-flat, each-front, each-none, each-true, each-unmapped}
use Rattle.mig_calls.proofs.GivenLemmas.{same-kinds, scalar-fits, short-scalar, short-values}
use Rattle.mig_calls.proofs.InsertedRows.{each-by-in, row-in}

-- ---- columns and tables of the layout
layout-length : (schema : Schema) (layout : Layout) → layout_of schema ≡ layout → length layout ≡ length schema.tables
layout-length schema layout same = sym (ap length same) ∙ length-map schema.tables (λ (t : Table). map (λ (c : Column). c.kind) t.columns)

kinds-are : (schema : Schema) (layout : Layout) (t : ℕ) → layout_of schema ≡ layout → kinds_at layout t ≡ map (λ (c : Column). c.kind) (columns_of schema t)
kinds-are schema layout t same = ap (λ l. kinds_at l t) (sym same) ∙ kinds_at-schema schema t

kind-is : (schema : Schema) (layout : Layout) (c : ColId) → layout_of schema ≡ layout → kind_at layout c.table c.column ≡ kind_of schema c
kind-is schema layout c same = ap (λ ks. get_or ks c.column kind.Int) (kinds-are schema layout c.table same) ∙ go (columns_of schema c.table) c.column
  where
    go : (cs : List Column) (n : ℕ) → get_or (map (λ (x : Column). x.kind) cs) n kind.Int ≡ (get_or cs n no_column).kind
    go [] n = refl
    go (x ∷ cs) zero = refl
    go (x ∷ cs) (suc n) = go cs n

table-within : (schema : Schema) (layout : Layout) (t : ℕ) → layout_of schema ≡ layout → has_table schema t ≡ true → t < length layout
table-within schema layout t same h = let k = ltb-true t (length schema.tables) h in omega (arith, k, layout-length schema layout same)

column-is : (schema : Schema) (layout : Layout) (c : ColId) → layout_of schema ≡ layout → has_column schema c ≡ true → IsColumn layout c
column-is schema layout c same h =
    let k = and_parts (has_table schema c.table) (nat_lt c.column (length (columns_of schema c.table))) h in
    let n = ltb-true c.column (length (columns_of schema c.table)) k.1 in
    let e : length (kinds_at layout c.table) ≡ length (columns_of schema c.table) = ap length (kinds-are schema layout c.table same) ∙ length-map (columns_of schema c.table) (λ (x : Column). x.kind) in
    record { table = table-within schema layout c.table same k.0; within = omega (arith, n, e) }

-- ---- a piece
module _ (schema : Schema) (layout : Layout) (f : Function) (g : Given) (same : layout_of schema ≡ layout) (gi : IsGivenTo f g) where
  tables-in : (p : Piece) → IsTypedPiece schema f p → Each (λ t. has_table schema t ≡ true) (tables_of p.join)
  tables-in p typed = each-weaker _ _ (λ t h. not-false (has_table schema t) h) (tables_of p.join) (each-front _ (tables_of p.join) _ (each-front _ (tables_of p.join ++ p.listed) _ (each-none (λ t. not (has_table schema t)) (named_tables p) typed.tables)))

  columns-in : (p : Piece) → IsTypedPiece schema f p → Each (λ c. has_column schema c ≡ true) (named_columns p)
  columns-in p typed = each-weaker _ _ (λ c h. not-false (has_column schema c) h) (named_columns p) (each-none (λ c. not (has_column schema c)) (named_columns p) typed.columns)

  used-joined : (p : Piece) → IsTypedPiece schema f p → Each (λ (c : ColId). is_among c.table (tables_of p.join) ≡ true) (used_columns p)
  used-joined p typed = each-unmapped (λ t. is_among t (tables_of p.join) ≡ true) (λ (c : ColId). c.table) (used_columns p) (each-weaker _ _ (λ t h. not-false (is_among t (tables_of p.join)) h) (map (λ (c : ColId). c.table) (used_columns p)) (each-back _ p.listed _ (each-none (λ t. not (is_among t (tables_of p.join))) (p.listed ++ map (λ (c : ColId). c.table) (used_columns p)) typed.joined)))

  listed-joined : (p : Piece) → IsTypedPiece schema f p → Each (λ t. is_among t (tables_of p.join) ≡ true) p.listed
  listed-joined p typed = each-weaker _ _ (λ t h. not-false (is_among t (tables_of p.join)) h) p.listed (each-front _ p.listed _ (each-none (λ t. not (is_among t (tables_of p.join))) (p.listed ++ map (λ (c : ColId). c.table) (used_columns p)) typed.joined))

  -- no table stands twice among those before and those to come
  new-table : (t : ℕ) (earlier : List ℕ) (ts : List ℕ) → Each (λ u. is_among u (t ∷ ts) ≡ false) earlier → is_among t earlier ≡ false
  new-table t [] ts a = refl
  new-table t (u ∷ earlier) ts a = or_from (u == t) (is_among t earlier) (turned (or_parts (t == u) (is_among u ts) a.0).0) (new-table t earlier ts a.1)
    where
      turned : (t == u) ≡ false → (u == t) ≡ false
      turned h = same-bool (u == t) (t == u) (λ k. eq-eqb t u (sym (eqb-true u t k))) (λ k. eq-eqb u t (sym (eqb-true t u k))) ∙ h

  tail-apart : (t : ℕ) (earlier : List ℕ) (ts : List ℕ) → Each (λ u. is_among u (t ∷ ts) ≡ false) earlier → is_among t ts ≡ false → Each (λ u. is_among u ts ≡ false) (earlier ++ t ∷ [])
  tail-apart t [] ts a h = (h, tt)
  tail-apart t (u ∷ earlier) ts a h = ((or_parts (t == u) (is_among u ts) a.0).1, tail-apart t earlier ts a.1 h)

  all-joined : (earlier : List ℕ) (ms : List Joined) → all_join_on schema earlier ms ≡ true → Each (λ c. has_column schema c ≡ true) (flat_map (λ (m : Joined). m.left ∷ m.right ∷ []) ms)
      → stands_twice (map (λ (m : Joined). m.table) ms) ≡ false → Each (λ u. is_among u (map (λ (m : Joined). m.table) ms) ≡ false) earlier → AllJoinedFit layout earlier ms
  all-joined earlier [] on cols once apart = tt
  all-joined earlier (m ∷ ms) on cols once apart =
      let k = and_parts (joins_on schema earlier m) (all_join_on schema (earlier ++ m.table ∷ []) ms) on in
      let a = and_parts (is_among m.left.table earlier) (m.right.table == m.table && same_kind (kind_of schema m.left) (kind_of schema m.right)) k.0 in
      let b = and_parts (m.right.table == m.table) (same_kind (kind_of schema m.left) (kind_of schema m.right)) a.1 in
      let rest = map (λ (n : Joined). n.table) ms in
      let o = or_parts (is_among m.table rest) (stands_twice rest) once in (
        record {
          left = column-is schema layout m.left same cols.0;
          right = column-is schema layout m.right same cols.1.0;
          earlier_left = a.0;
          own_right = eqb-true m.right.table m.table b.0;
          new = new-table m.table earlier rest apart;
          kinds = kind-is schema layout m.left same ∙ (same-kinds (kind_of schema m.left) (kind_of schema m.right) b.1 ∙ sym (kind-is schema layout m.right same));
        },
        all-joined (earlier ++ m.table ∷ []) ms k.1 cols.1.1 o.1 (tail-apart m.table earlier rest apart o.0),
      )

  join-fits : (p : Piece) → IsTypedPiece schema f p → JoinFits layout p.join
  join-fits p typed =
      let once = or_parts (stands_twice (tables_of p.join)) (stands_twice p.listed) typed.once in
      let o = or_parts (is_among p.join.first (map (λ (m : Joined). m.table) p.join.more)) (stands_twice (map (λ (m : Joined). m.table) p.join.more)) once.0 in
      record {
        first = table-within schema layout p.join.first same (tables-in p typed).0;
        more = all-joined (p.join.first ∷ []) p.join.more (not-false _ typed.shape) (each-front _ (flat_map (λ (m : Joined). m.left ∷ m.right ∷ []) p.join.more) (used_columns p) (columns-in p typed)) o.1 (o.0, tt);
      }

  -- ---- comparisons
  abbrev CmpKnown : Piece → Cmp → Type 0
  CmpKnown p c = Each (λ (x : ColId). (has_column schema x ≡ true) × (is_among x.table (tables_of p.join) ≡ true)) (item_columns c.left ++ item_columns c.right) × Each (λ x. (names_no_param f x ≡ false) × (label_fits x ≡ true)) (item_scalars c.left ++ item_scalars c.right)

  sides-fit : (p : Piece) (a b : Item) → Each (λ (x : ColId). (has_column schema x ≡ true) × (is_among x.table (tables_of p.join) ≡ true)) (item_columns a ++ item_columns b) → Each (λ x. (names_no_param f x ≡ false) × (label_fits x ≡ true)) (item_scalars a ++ item_scalars b) → same_kind (item_kind schema f a) (item_kind schema f b) ≡ true → SidesFit layout g (tables_of p.join) a b
  sides-fit p (item.Col c) (item.Scalar x) cols scs k = record {
    column = column-is schema layout c same cols.0.0;
    joined = cols.0.1;
    kind = ap (λ q. of_kind q (scalar_value g x)) (kind-is schema layout c same ∙ same-kinds (kind_of schema c) (scalar_kind f x) k) ∙ scalar-fits f g gi x scs.0.0 scs.0.1;
  }
  sides-fit p (item.Scalar x) (item.Col c) cols scs k = record {
    column = column-is schema layout c same cols.0.0;
    joined = cols.0.1;
    kind = ap (λ q. of_kind q (scalar_value g x)) (kind-is schema layout c same ∙ sym (same-kinds (scalar_kind f x) (kind_of schema c) k)) ∙ scalar-fits f g gi x scs.0.0 scs.0.1;
  }
  sides-fit p (item.Col c) (item.Col d) cols scs k = tt
  sides-fit p (item.Scalar x) (item.Scalar y) cols scs k = tt

  cmps-fit : (p : Piece) → IsTypedPiece schema f p → list_all label_fits (scalars_of p) ≡ true → Each (λ (c : Cmp). SidesFit layout g (tables_of p.join) c.left c.right) p.compared
  cmps-fit p typed labels =
      let front = flat_map (λ (m : Joined). m.left ∷ m.right ∷ []) p.join.more in
      let cols = each-flat _ (λ (c : Cmp). item_columns c.left ++ item_columns c.right) p.compared
      (each-back _ (p.selected ++ map (λ (a : Assign). a.column) p.written) _ (each-both _ _ (used_columns p) (each-back _ front (used_columns p) (columns-in p typed)) (used-joined p typed))) in
      let scs = each-flat _ (λ (c : Cmp). item_scalars c.left ++ item_scalars c.right) p.compared
      (each-back _ (map (λ (a : Assign). a.value) p.written) _ (each-both _ _ (scalars_of p) (each-none (names_no_param f) (scalars_of p) typed.params) (each-true label_fits (scalars_of p) labels))) in
      let kinds = each-none (λ (c : Cmp). not (same_kind (item_kind schema f c.left) (item_kind schema f c.right))) p.compared (or_parts _ _ typed.kinds).1 in
      each-weaker _ _ (λ (c : Cmp) h. sides-fit p c.left c.right h.0.0 h.0.1 (not-false _ h.1)) p.compared (each-both _ _ p.compared (each-both _ _ p.compared cols scs) kinds)

  cases-fit : (ts : List ℕ) (cases : List (List Cmp)) → Each (λ (c : Cmp). SidesFit layout g ts c.left c.right) (flat_map (λ case. case) cases) → CasesFit layout g ts cases
  cases-fit ts cases a = each-flat (λ (c : Cmp). SidesFit layout g ts c.left c.right) (λ case. case) cases a

  -- ---- statements
  single : Stmt → Function
  single stmt = record { name = f.name; params = f.params; body = body.Update (stmt ∷ []) }

  -- an insert alone leads from the empty state to a state, in which its rows are
  inserted : IsTypedFunction schema f → (join : Join) (values : List Assign) → IsTypedPiece schema f (piece_of (Insert join values)) → list_all label_fits (scalars_of (piece_of (Insert join values))) ≡ true → IsState schema (with_rows schema g join.more values (tables_of join) (empty_state schema))
  unfolding single
  inserted tf join values typed labels =
      state-law schema (single (Insert join values)) g (empty_state schema)
      (record {
        params = tf.params;
        pieces = (record { tables = typed.tables; columns = typed.columns; once = typed.once; shape = typed.shape; params = typed.params; joined = typed.joined; kinds = typed.kinds; orders = typed.orders; cover = typed.cover }, tt);
      })
      (and_from (list_all label_fits (scalars_of (piece_of (Insert join values)))) true labels refl)
      (record { sixteen = gi.sixteen; different = gi.different; args = gi.args })
      (empty-state schema)

  insert-fits : IsTypedFunction schema f → (join : Join) (values : List Assign) → IsTypedPiece schema f (piece_of (Insert join values)) → list_all label_fits (scalars_of (piece_of (Insert join values))) ≡ true → Each IsShort g.args → Each IsShortScalar (scalars_of (piece_of (Insert join values))) → Each (RowFits layout schema g join.more values) (tables_of join)
  insert-fits tf join values typed labels short literals =
      let st : IsState schema (with_rows schema g join.more values (tables_of join) (empty_state schema)) = inserted tf join values typed labels in
      let count : length (empty_state schema).tables ≡ length schema.tables = length-map schema.tables (λ (t : Table). []) in
      let within : Each (λ u. u < length (empty_state schema).tables) (tables_of join) = each-weaker _ _ (λ u h. let k = ltb-true u (length schema.tables) h in omega (arith, k, count)) (tables_of join) (tables-in (piece_of (Insert join values)) typed) in
      each-by-in (RowFits layout schema g join.more values) (tables_of join) (tables_of join) (λ t h. h) (λ t h.
      let found = row-in schema g join.more values (tables_of join) (empty_state schema) t within h in
      let fitting = each-in (λ (p : Placed). row_fits (columns_of schema t) p.row.values ≡ true) found.0 _ (st.each t).fitting found.1 in
      record {
        table = table-within schema layout t same (each-in (λ u. has_table schema u ≡ true) t (tables_of join) (tables-in (piece_of (Insert join values)) typed) h);
        kinds = ap (λ ks. of_kinds ks (new_values schema g join.more values t)) (kinds-are schema layout t same) ∙ (sym (row_fits-kinds (columns_of schema t) (new_values schema g join.more values t)) ∙ (ap (row_fits (columns_of schema t)) (sym found.2) ∙ fitting));
        texts = short-values schema g join.more values t short (each-unmapped IsShortScalar (λ (a : Assign). a.value) values (each-front _ (map (λ (a : Assign). a.value) values) _ literals));
      })

  stmt-fits : IsTypedFunction schema f → Each IsShort g.args → (stmt : Stmt) → IsTypedPiece schema f (piece_of stmt) → list_all label_fits (scalars_of (piece_of stmt)) ≡ true → Each IsShortScalar (scalars_of (piece_of stmt)) → StmtFits layout schema g stmt
  stmt-fits tf short (Insert join values) typed labels literals = insert-fits tf join values typed labels short literals
  stmt-fits tf short (Delete listed join test) typed labels literals =
      let p = piece_of (Delete listed join test) in (
        join-fits p typed,
        cases-fit (tables_of join) test.cases (cmps-fit p typed labels),
        record { joined = listed-joined p typed; once = (or_parts (stands_twice (tables_of join)) (stands_twice listed) typed.once).1 },
      )
  stmt-fits tf short (Set column x join test) typed labels literals =
      let p = piece_of (Set column x join test) in
      let front = flat_map (λ (m : Joined). m.left ∷ m.right ∷ []) join.more in
      let col : has_column schema column ≡ true = (each-back _ front (used_columns p) (columns-in p typed)).0 in
      let kinds = (each-none (λ (a : Assign). not (same_kind (kind_of schema a.column) (scalar_kind f a.value))) p.written (or_parts _ _ typed.kinds).0).0 in
      let named = (each-none (names_no_param f) (scalars_of p) typed.params).0 in
      let label = (each-true label_fits (scalars_of p) labels).0 in (
        join-fits p typed,
        cases-fit (tables_of join) test.cases (cmps-fit p typed labels),
        record {
          column = column-is schema layout column same col;
          joined = (used-joined p typed).0;
          kind = ap (λ k. of_kind k (scalar_value g x)) (kind-is schema layout column same ∙ same-kinds (kind_of schema column) (scalar_kind f x) (not-false _ kinds)) ∙ scalar-fits f g gi x named label;
        },
        short-scalar g short x literals.0,
      )

  stmts-fit : IsTypedFunction schema f → Each IsShort g.args → (stmts : List Stmt) → Each (IsTypedPiece schema f) (map piece_of stmts) → Each (λ (p : Piece). list_all label_fits (scalars_of p) ≡ true) (map piece_of stmts) → Each (λ (p : Piece). Each IsShortScalar (scalars_of p)) (map piece_of stmts) → Each (StmtFits layout schema g) stmts
  stmts-fit tf short [] typed labels literals = tt
  stmts-fit tf short (t ∷ ts) typed labels literals = (stmt-fits tf short t typed.0 labels.0 literals.0, stmts-fit tf short ts typed.1 labels.1 literals.1)

  body-of : IsTypedFunction schema f → Each IsShort g.args → (b : Body) → Each (IsTypedPiece schema f) (pieces_of b) → Each (λ (p : Piece). list_all label_fits (scalars_of p) ≡ true) (pieces_of b) → Each (λ (p : Piece). Each IsShortScalar (scalars_of p)) (pieces_of b) → BodyFits layout schema g b
  body-of tf short (body.Update stmts) typed labels literals = stmts-fit tf short stmts typed labels literals
  body-of tf short (body.Query q) typed labels literals = (join-fits (query_piece q) typed.0, cases-fit (tables_of q.join) q.cond.cases (cmps-fit (query_piece q) typed.0 labels.0))

  pub body-fits : IsTypedFunction schema f → labels_fit f ≡ true → HasShortTexts f g.args → BodyFits layout schema g f.body
  body-fits tf labels short =
      body-of tf short.arguments f.body (by-recursion (IsTypedPiece schema f) (pieces_of f.body) tf.pieces) (each-true (λ (p : Piece). list_all label_fits (scalars_of p)) (pieces_of f.body) labels) short.literals
