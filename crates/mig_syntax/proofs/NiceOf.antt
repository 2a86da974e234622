-- Programs that can be printed have known names within the limits.
use Rattle.std.proofs.Common.{◌≡◌, ℕ, ◌<◌, ◌≤◌, nat_lt, not, Bool, true, false, List, [], ◌∷◌, ◌++◌, map, length, get_or, inl, inr, refl, subst, arith, ltb-true, zero, suc}
use Rattle.std.specs.List.{AllByRecursion, flat_map, list_any}
use Rattle.std.proofs.lemmas.Bool.{and_parts}
use Rattle.std.proofs.lemmas.List.Concat.{length-flat_map}
use Rattle.mig_schema.specs.Columns.{no_table, no_column, columns_of, has_table, has_column}
use Rattle.mig_schema.specs.Joins.{tables_of}
use Rattle.mig_schema.specs.Typed.{Piece, piece_of, query_piece, pieces_of, item_columns, item_scalars, used_columns, scalars_of, named_columns, named_tables, names_no_param, IsTypedPiece, IsTypedFunction}
use Rattle.mig_schema.specs.declared.tables.ColId.{ColId}
use Rattle.mig_schema.specs.declared.tables.Column.{Column}
use Rattle.mig_schema.specs.declared.tables.Schema.{Schema}
use Rattle.mig_schema.specs.declared.programs.Assign.{Assign}
use Rattle.mig_schema.specs.declared.programs.Body.{Body}
use Rattle.mig_schema.specs.declared.programs.Body.TheVariants as body
use Rattle.mig_schema.specs.declared.programs.Cmp.{Cmp}
use Rattle.mig_schema.specs.declared.programs.Function.{Function}
use Rattle.mig_schema.specs.declared.programs.Item.{Item}
use Rattle.mig_schema.specs.declared.programs.Item.TheVariants as item
use Rattle.mig_schema.specs.declared.programs.Joined.{Joined}
use Rattle.mig_schema.specs.declared.programs.Param.{Param}
use Rattle.mig_schema.specs.declared.programs.Program.{Program}
use Rattle.mig_schema.specs.declared.programs.Query.{Query}
use Rattle.mig_schema.specs.declared.programs.Scalar.{Scalar}
use Rattle.mig_schema.specs.declared.programs.Scalar.TheVariants as scalar
use Rattle.mig_schema.specs.declared.programs.Stmt.{Stmt}
use Rattle.mig_schema.specs.declared.programs.Stmt.TheVariants.{Insert, Delete, Set}
use Rattle.mig_tokens.specs.Forms.{AllOfSome}
use Rattle.mig_grammar.specs.Shapes.{is_param_kind}
use Rattle.mig_printing.specs.Printing.{param_name}
use Rattle.mig_syntax.specs.Printable.{IsNameText, IsNamedTable, IsNamedSchema, IsSpelledScalar, IsSpelledValue, IsSpelledItem, IsSpelledCmp, AreSpelledCases, IsSpelledStmt, IsSpelledBody, IsSpelledFunction, IsPrintable}
use Rattle.mig_schema.specs.Within.{FitsScalar, IsPieceWithin, IsWithin}
use Rattle.mig_syntax.proofs.Alls.{all_front, all_back, length_mapped}
use Rattle.mig_syntax.proofs.FirstOfName.{or_first, or_second}
use Rattle.mig_syntax.proofs.NamedBack.{HasNames, GoodFunction}
use Rattle.mig_syntax.proofs.Nice.{NiceTable, NiceCol, NiceJoined, NiceJoin, NiceScalar, NiceValue, NiceItem, NiceCmp, NiceCase, NiceCases, NiceAssign, NiceStmt, NiceQuery, NiceBody}

-- ---- lists

pub all_at : {A : Type 0} (P : A → Type 0) (xs : List A) (k : ℕ) (d : A) → AllByRecursion P xs → k < length xs → P (get_or xs k d)
all_at P [] k d h lt = absurd (omega arith)
all_at P (x ∷ xs) zero d h lt = h.0
all_at P (x ∷ xs) (suc k) d h lt = all_at P xs k d h.1 (omega arith)

all_unflat : {A B : Type 0} (Q : B → Type 0) (f : A → List B) (xs : List A) → AllByRecursion Q (flat_map f xs) → AllByRecursion (λ (x : A). AllByRecursion Q (f x)) xs
all_unflat Q f [] h = tt
all_unflat Q f (x ∷ xs) h = (all_front Q (f x) (flat_map f xs) h, all_unflat Q f xs (all_back Q (f x) (flat_map f xs) h))

untrue : (b : Bool) → not b ≡ false → b ≡ true
untrue true e = refl
untrue false e = absurd cc

none_any : {A : Type 0} (f : A → Bool) (xs : List A) → list_any f xs ≡ false → AllByRecursion (λ (x : A). f x ≡ false) xs
none_any f [] e = tt
none_any f (x ∷ xs) e = (or_first (f x) (list_any f xs) e, none_any f xs (or_second (f x) (list_any f xs) e))

module _ (s : Schema) (named : IsNamedSchema s) where
  -- ---- tables and columns

  nice_table : (t : ℕ) → not (has_table s t) ≡ false → NiceTable s t
  nice_table t e =
      let lt : t < length s.tables = ltb-true t (length s.tables) (untrue (has_table s t) e) in
      ((all_at IsNamedTable s.tables t no_table named.tables lt).name, lt)

  nice_col : (c : ColId) → not (has_column s c) ≡ false → NiceCol s c
  nice_col c e =
      let both = and_parts (has_table s c.table) (nat_lt c.column (length (columns_of s c.table))) (untrue (has_column s c) e) in
      let lt : c.table < length s.tables = ltb-true c.table (length s.tables) both.0 in
      let lt' : c.column < length (columns_of s c.table) = ltb-true c.column (length (columns_of s c.table)) both.1 in
      let table = all_at IsNamedTable s.tables c.table no_table named.tables lt in
      (table.name, all_at (λ (d : Column). IsNameText d.name) (columns_of s c.table) c.column no_column table.columns lt', (lt, lt'))

  abbrev TableIs : ℕ → Type 0
  TableIs t = not (has_table s t) ≡ false

  abbrev ColIs : ColId → Type 0
  ColIs c = not (has_column s c) ≡ false

  nice_more : (ms : List Joined) → AllByRecursion TableIs (map (λ (m : Joined). m.table) ms) → AllByRecursion ColIs (flat_map (λ (m : Joined). m.left ∷ m.right ∷ []) ms) → AllByRecursion (NiceJoined s) ms
  nice_more [] t c = tt
  nice_more (m ∷ ms) t c = (record { table = nice_table m.table t.0; left = nice_col m.left c.0; right = nice_col m.right c.1.0 }, nice_more ms t.1 c.1.1)

  module _ (f : Function) (names : AllByRecursion (λ (p : Param). IsNameText p.name × (is_param_kind p.kind ≡ true)) f.params) where
    abbrev ParamIs : Scalar → Type 0
    ParamIs x = names_no_param f x ≡ false

    nice_param : (p : ℕ) → not (nat_lt p (length f.params)) ≡ false → IsNameText (param_name f.params p) × (p < length f.params)
    nice_param p e =
        let lt : p < length f.params = ltb-true p (length f.params) (untrue (nat_lt p (length f.params)) e) in
        ((all_at (λ (q : Param). IsNameText q.name × (is_param_kind q.kind ≡ true)) f.params p _ names lt).0, lt)

    nice_scalar : (x : Scalar) → ParamIs x → FitsScalar x → IsSpelledScalar x → NiceScalar s f.params x
    nice_scalar (scalar.Param p) e fits spelled = nice_param p e
    nice_scalar (scalar.Int i) e fits spelled = fits
    nice_scalar (scalar.Text t) e fits spelled = (spelled, fits)
    nice_scalar (scalar.Fresh k) e fits spelled = absurd spelled

    nice_value : (x : Scalar) → ParamIs x → FitsScalar x → IsSpelledValue x → NiceValue s f.params x
    nice_value (scalar.Param p) e fits spelled = nice_param p e
    nice_value (scalar.Int i) e fits spelled = fits
    nice_value (scalar.Text t) e fits spelled = (spelled, fits)
    nice_value (scalar.Fresh k) e fits spelled = fits

    -- ---- comparisons

    nice_item : (x : Item) → AllByRecursion ColIs (item_columns x) → AllByRecursion ParamIs (item_scalars x) → AllByRecursion FitsScalar (item_scalars x) → IsSpelledItem x → NiceItem s f.params x
    nice_item (item.Col c) col param fits spelled = nice_col c col.0
    nice_item (item.Scalar x) col param fits spelled = nice_scalar x param.0 fits.0 spelled

    abbrev columns_in : Cmp → List ColId
    columns_in c = item_columns c.left ++ item_columns c.right

    abbrev scalars_in : Cmp → List Scalar
    scalars_in c = item_scalars c.left ++ item_scalars c.right

    nice_cmp : (c : Cmp) → AllByRecursion ColIs (columns_in c) → AllByRecursion ParamIs (scalars_in c) → AllByRecursion FitsScalar (scalars_in c) → IsSpelledCmp c → NiceCmp s f.params c
    nice_cmp c col param fits spelled = (
      nice_item c.left (all_front ColIs (item_columns c.left) (item_columns c.right) col) (all_front ParamIs (item_scalars c.left) (item_scalars c.right) param) (all_front FitsScalar (item_scalars c.left) (item_scalars c.right) fits) spelled.0,
      nice_item c.right (all_back ColIs (item_columns c.left) (item_columns c.right) col) (all_back ParamIs (item_scalars c.left) (item_scalars c.right) param) (all_back FitsScalar (item_scalars c.left) (item_scalars c.right) fits) spelled.1,
    )

    abbrev ColsIn : Cmp → Type 0
    ColsIn c = AllByRecursion ColIs (columns_in c)

    abbrev ParamsIn : Cmp → Type 0
    ParamsIn c = AllByRecursion ParamIs (scalars_in c)

    abbrev FitsIn : Cmp → Type 0
    FitsIn c = AllByRecursion FitsScalar (scalars_in c)

    nice_all : (cs : List Cmp) → AllByRecursion ColsIn cs → AllByRecursion ParamsIn cs → AllByRecursion FitsIn cs → AllByRecursion IsSpelledCmp cs → AllByRecursion (NiceCmp s f.params) cs
    nice_all [] col param fits spelled = tt
    nice_all (c ∷ cs) col param fits spelled = (nice_cmp c col.0 param.0 fits.0 spelled.0, nice_all cs col.1 param.1 fits.1 spelled.1)

    nice_case : (cs : List Cmp) → AllByRecursion ColsIn cs → AllByRecursion ParamsIn cs → AllByRecursion FitsIn cs → AllOfSome IsSpelledCmp cs → NiceCase s f.params cs
    nice_case [] col param fits spelled = absurd spelled
    nice_case (c ∷ cs) col param fits spelled = nice_all (c ∷ cs) col param fits spelled

    nice_each : (ds : List (List Cmp)) → AllByRecursion (AllByRecursion ColsIn) ds → AllByRecursion (AllByRecursion ParamsIn) ds → AllByRecursion (AllByRecursion FitsIn) ds → AllByRecursion (AllOfSome IsSpelledCmp) ds → AllByRecursion (NiceCase s f.params) ds
    nice_each [] col param fits spelled = tt
    nice_each (d ∷ ds) col param fits spelled = (nice_case d col.0 param.0 fits.0 spelled.0, nice_each ds col.1 param.1 fits.1 spelled.1)

    nice_some : (ds : List (List Cmp)) → AllByRecursion (AllByRecursion ColsIn) ds → AllByRecursion (AllByRecursion ParamsIn) ds → AllByRecursion (AllByRecursion FitsIn) ds → AllOfSome (AllOfSome IsSpelledCmp) ds → AllOfSome (NiceCase s f.params) ds
    nice_some [] col param fits spelled = absurd spelled
    nice_some (d ∷ ds) col param fits spelled = nice_each (d ∷ ds) col param fits spelled

    abbrev all_of : List (List Cmp) → List Cmp
    all_of cases = flat_map (λ (case : List Cmp). case) cases

    nice_cases : (cases : List (List Cmp)) → AllByRecursion ColIs (flat_map columns_in (all_of cases)) → AllByRecursion ParamIs (flat_map scalars_in (all_of cases)) → AllByRecursion FitsScalar (flat_map scalars_in (all_of cases))
        → length (all_of cases) ≤ 16 → AreSpelledCases cases → NiceCases s f.params cases
    nice_cases cases col param fits few spelled =
        elim spelled [
          | inl e ↦ inl e
          | inr h ↦ inr (
            nice_some cases (all_unflat ColsIn (λ (case : List Cmp). case) cases (all_unflat ColIs columns_in (all_of cases) col)) (all_unflat ParamsIn (λ (case : List Cmp). case) cases (all_unflat ParamIs scalars_in (all_of cases) param)) (all_unflat FitsIn (λ (case : List Cmp). case) cases (all_unflat FitsScalar scalars_in (all_of cases) fits)) h,
            subst (λ n. n ≤ 16) (length-flat_map (λ (case : List Cmp). case) cases) few,
          )
        ]

    -- ---- statements

    own_tables : (p : Piece) → IsTypedPiece s f p → AllByRecursion TableIs (tables_of p.join ++ p.listed)
    own_tables p typed = all_front TableIs (tables_of p.join ++ p.listed) (map (λ (c : ColId). c.table) (named_columns p)) (none_any (λ t. not (has_table s t)) (named_tables p) typed.tables)

    nice_join : (p : Piece) → IsTypedPiece s f p → IsPieceWithin p → NiceJoin s p.join
    nice_join p typed within =
        let tables = all_front TableIs (tables_of p.join) p.listed (own_tables p typed) in
        let cols = all_front ColIs (flat_map (λ (m : Joined). m.left ∷ m.right ∷ []) p.join.more) (used_columns p) (none_any (λ c. not (has_column s c)) (named_columns p) typed.columns) in
        let few : length (tables_of p.join) ≤ 4 = within.joined in
        record { first = nice_table p.join.first tables.0; more = nice_more p.join.more tables.1 cols; few_tables = omega (arith, length_mapped (λ (m : Joined). m.table) p.join.more) }

    used : (p : Piece) → IsTypedPiece s f p → AllByRecursion ColIs (used_columns p)
    used p typed = all_back ColIs (flat_map (λ (m : Joined). m.left ∷ m.right ∷ []) p.join.more) (used_columns p) (none_any (λ c. not (has_column s c)) (named_columns p) typed.columns)

    listed_tables : (p : Piece) → IsTypedPiece s f p → AllByRecursion TableIs p.listed
    listed_tables p typed =
        all_back TableIs (tables_of p.join) p.listed (own_tables p typed)

    known_params : (p : Piece) → IsTypedPiece s f p → AllByRecursion ParamIs (scalars_of p)
    known_params p typed = none_any (names_no_param f) (scalars_of p) typed.params

    nice_values : (vs : List Assign) → AllByRecursion ColIs (map (λ (a : Assign). a.column) vs) → AllByRecursion ParamIs (map (λ (a : Assign). a.value) vs) → AllByRecursion FitsScalar (map (λ (a : Assign). a.value) vs) → AllByRecursion (λ (a : Assign). IsSpelledValue a.value) vs → AllByRecursion (NiceAssign s f.params) vs
    nice_values [] col param fits spelled = tt
    nice_values (a ∷ vs) col param fits spelled = ((nice_col a.column col.0, nice_value a.value param.0 fits.0 spelled.0), nice_values vs col.1 param.1 fits.1 spelled.1)

    nice_stmt : (t : Stmt) → IsTypedPiece s f (piece_of t) → IsPieceWithin (piece_of t) → IsSpelledStmt t → NiceStmt s f.params t
    nice_stmt (Insert join []) typed within spelled = absurd spelled
    nice_stmt (Insert join (v ∷ vs)) typed within spelled =
        let p = piece_of (Insert join (v ∷ vs)) in
        let columns = map (λ (a : Assign). a.column) (v ∷ vs) in
        let values = map (λ (a : Assign). a.value) (v ∷ vs) in (
          nice_join p typed within,
          nice_values (v ∷ vs) (all_front ColIs columns [] (used p typed)) (all_front ParamIs values [] (known_params p typed)) (all_front FitsScalar values [] within.scalars) spelled,
        )
    nice_stmt (Delete [] join test) typed within spelled = absurd spelled.0
    nice_stmt (Delete (t ∷ ts) join test) typed within spelled =
        let p = piece_of (Delete (t ∷ ts) join test) in (
          nice_tables (t ∷ ts) (listed_tables p typed),
          (nice_join p typed within, nice_cases test.cases (used p typed) (known_params p typed) within.scalars within.compared spelled.1),
        )
      where
        nice_tables : (us : List ℕ) → AllByRecursion TableIs us → AllByRecursion (NiceTable s) us
        nice_tables [] h = tt
        nice_tables (u ∷ us) h = (nice_table u h.0, nice_tables us h.1)
    nice_stmt (Set column x join test) typed within spelled =
        let p = piece_of (Set column x join test) in
        let cols = used p typed in
        let params = known_params p typed in
        let fits = within.scalars in
        ((nice_col column cols.0, nice_scalar x params.0 fits.0 spelled.0), (nice_join p typed within, nice_cases test.cases cols.1 params.1 fits.1 within.compared spelled.1))

    nice_query : (q : Query) → IsTypedPiece s f (query_piece q) → IsPieceWithin (query_piece q) → IsSpelledBody (body.Query q) → NiceQuery s f.params q
    nice_query q typed within spelled =
        let p = query_piece q in
        let cols = used p typed in
        let compared = flat_map columns_in (all_of q.cond.cases) in
        record {
          columns = nice_columns q.columns spelled.0 (all_front ColIs q.columns [] (all_front ColIs (q.columns ++ []) compared cols));
          few_columns = within.selected;
          join = nice_join p typed within;
          cases = nice_cases q.cond.cases (all_back ColIs (q.columns ++ []) compared cols) (known_params p typed) within.scalars within.compared spelled.1;
        }
      where
        nice_each_column : (cs : List ColId) → AllByRecursion ColIs cs → AllByRecursion (NiceCol s) cs
        nice_each_column [] h = tt
        nice_each_column (c ∷ cs) h = (nice_col c h.0, nice_each_column cs h.1)

        nice_columns : (cs : List ColId) → AllOfSome (λ (c : ColId). Unit {0}) cs → AllByRecursion ColIs cs → AllOfSome (NiceCol s) cs
        nice_columns [] some h = absurd some
        nice_columns (c ∷ cs) some h = nice_each_column (c ∷ cs) h

    nice_stmts : (ts : List Stmt) → AllByRecursion (IsTypedPiece s f) (map piece_of ts) → AllByRecursion IsPieceWithin (map piece_of ts) → AllByRecursion IsSpelledStmt ts → AllByRecursion (NiceStmt s f.params) ts
    nice_stmts [] typed within spelled = tt
    nice_stmts (t ∷ ts) typed within spelled = (nice_stmt t typed.0 within.0 spelled.0, nice_stmts ts typed.1 within.1 spelled.1)

    nice_body : (b : Body) → AllByRecursion (IsTypedPiece s f) (pieces_of b) → AllByRecursion IsPieceWithin (pieces_of b) → length (pieces_of b) ≤ 4 → IsSpelledBody b → NiceBody s f.params b
    nice_body (body.Update []) typed within few spelled = absurd spelled
    nice_body (body.Update (t ∷ ts)) typed within few spelled = (nice_stmts (t ∷ ts) typed within spelled, omega (arith, length_mapped piece_of (t ∷ ts)))
    nice_body (body.Query q) typed within few spelled = nice_query q typed.0 within.0 spelled

  -- ---- functions

  good_function : (f : Function) → IsTypedFunction s f → IsWithin f → IsSpelledFunction f → GoodFunction s f
  good_function f typed within spelled = (
    record { name = spelled.name; params = spelled.params; few_params = within.params; body = nice_body f spelled.params f.body typed.pieces within.pieces within.statements spelled.body },
    record { once = typed.params; few_params = within.params },
  )

  good_functions : (fs : List Function) → AllByRecursion (IsTypedFunction s) fs → AllByRecursion IsWithin fs → AllByRecursion IsSpelledFunction fs → AllByRecursion (GoodFunction s) fs
  good_functions [] typed within spelled = tt
  good_functions (f ∷ fs) typed within spelled = (good_function f typed.0 within.0 spelled.0, good_functions fs typed.1 within.1 spelled.1)

pub good : (s : Schema) (p : Program) → IsPrintable s p → AllByRecursion (GoodFunction s) p.functions
good s p h = good_functions s h.names p.functions h.typed.functions h.within.each h.functions

pub has_names : (s : Schema) (p : Program) → IsPrintable s p → HasNames s
has_names s p h = record {
  tables = h.schema.tables;
  columns = h.schema.columns;
  few_tables = h.names.few;
  few_columns = λ t lt. (all_at IsNamedTable s.tables t no_table h.names.tables lt).few;
}
