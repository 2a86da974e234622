-- An insert of several tables: one row at the end of each, of which the classes give the columns.
use Rattle.std.proofs.Common.{◌≡◌, ◌≢◌, ℕ, zero, suc, ◌+◌, ◌-◌, ◌<◌, ◌≤◌, Bool, true, false, cond, ◌&&◌, ◌||◌, List, [], ◌∷◌, ◌++◌, map, length, take, drop, Some, refl, sym, ap, ap₂, ◌∙◌, arith, inl, inr, ◌⊎◌, ⊎_elim, subst, length-append}
use Rattle.std.specs.Prelude.{◌==◌, nat_lt, slice_get, slice_index_or}
use Rattle.std.proofs.lemmas.Bool.{cases_Bool, cases_lt, and_parts, or_parts, eqb-true, ltb-true}
use Rattle.std.proofs.lemmas.List.{get_or_past}
use Rattle.mig_schema.specs.declared.tables.ColId.{ColId}
use Rattle.mig_schema.specs.declared.tables.Column.{Column}
use Rattle.mig_schema.specs.declared.faults.Side.{Side}
use Rattle.mig_schema.specs.declared.faults.Side.TheVariants.{Old, New}
use Rattle.mig_schema.specs.declared.tables.Schema.{Schema}
use Rattle.mig_schema.specs.declared.programs.Assign.{Assign}
use Rattle.mig_schema.specs.declared.programs.Function.{Function}
use Rattle.mig_schema.specs.declared.programs.Join.{Join}
use Rattle.mig_schema.specs.declared.programs.Joined.{Joined}
use Rattle.mig_schema.specs.declared.programs.Stmt.TheVariants.{Insert}
use Rattle.mig_base.specs.Lists.{numbered}
use Rattle.mig_schema.specs.Columns.{columns_of, has_table, has_column, same_col}
use Rattle.mig_schema.specs.Joins.{tables_of, leader, is_among}
use Rattle.mig_schema.specs.Typed.{piece_of, stands_twice, IsTypedPiece}
use Rattle.mig_meaning.specs.declared.states.Placed.{Placed}
use Rattle.mig_meaning.specs.declared.states.State.{State}
use Rattle.mig_meaning.specs.Lists.{place, In, Each}
use Rattle.mig_meaning.specs.States.{IsState}
use Rattle.mig_meaning.specs.Values.{no_value}
use Rattle.mig_meaning.specs.Rows.{rows_of, value_at}
use Rattle.mig_meaning.specs.Conditions.{Given, scalar_value}
use Rattle.mig_meaning.specs.Effect.{class_value, new_values, with_row, with_rows}
use Rattle.mig_meaning.proofs.StateLaw.{each-in}
use Rattle.mig_meaning.proofs.Within.{cond-keeps, each-weaker}
use Rattle.mig_algebra.specs.declared.atoms.Var.{Var}
use Rattle.mig_algebra.specs.declared.atoms.Atom.{Atom}
use Rattle.mig_algebra.specs.declared.terms.Term.{Term}
use Rattle.mig_algebra.specs.Meaning.{Setting, Env, choices, value_of, head_of}
use Rattle.mig_algebra.specs.Obligations.{scalar_atom}
use Rattle.mig_algebra.specs.Proper.{Sides, schema_of, same_side}
use Rattle.mig_algebra.specs.Rename.{lit_with, without, below, is_not}
use Rattle.mig_algebra.proofs.Ranges.{JoinFits, join-fits}
use Rattle.mig_algebra.proofs.Truth.{head-reads}
use Rattle.mig_algebra.proofs.Without.{any_atom, all-any_atom}
use Rattle.mig_algebra.proofs.Hosts.{host_sum}
use Rattle.mig_algebra.proofs.Products.{Picks, product_picks}
use Rattle.mig_replacing.proofs.Reached.{choice-length}
use Rattle.mig_obligations.specs.Settings.{Moment, stage_of, setting_of}
use Rattle.mig_steps.specs.Variables.{leaving_out}
use Rattle.mig_unfolding.proofs.Alike.{parts-at, before-vars, HostsAlike, LedTo, alike, host_weight}
use Rattle.mig_unfolding.proofs.HostLaws.{stage-rows}
use Rattle.mig_unfolding.proofs.Sets.{scalar-atom-value}
use Rattle.mig_unfolding.proofs.TypedStatements.{written-in-range}
use Rattle.mig_unfolding.proofs.Stages.{numbered-length, other-row, other-way, other-rows, inserted-row}
use Rattle.mig_unfolding.proofs.NarrowHost.{host-insert_named}
use Rattle.mig_unfolding.proofs.NarrowLists.{narrowed_length, leaving-middle}
use Rattle.mig_unfolding.proofs.NarrowTruth.{Apart, picks-old, narrowed-split}
use Rattle.mig_unfolding.proofs.NextIds.{stages-grow}
use Rattle.mig_unfolding.specs.Hosts.{var_before, before_statement, host_without}
use Rattle.mig_unfolding.specs.Narrowed.{is_same, is_older, narrowed, narrow_list, list_narrows, narrowed_host, host_narrows}
use Rattle.mig_unfolding.specs.Stages.{statements_at}
use Rattle.mig_unfolding.specs.Unfolding.{class_atom, insert_hosts}

-- ---- rows

module _ (schema : Schema) (g : Given) (ms : List Joined) (vs : List Assign) where
  -- each joined table has one row more, its id by the table's place
  pub inserted-rows : (ts : List ℕ) (s : State) (t : ℕ) → is_among t ts ≡ true → stands_twice ts ≡ false → t < length s.tables → rows_of (with_rows schema g ms vs ts s) t ≡ rows_of s t ++ (record { id = s.next + place ts t; row = record { values = new_values schema g ms vs t } } ∷ [])
  inserted-rows [] s t h o l = cc
  inserted-rows (u ∷ us) s t h o l = go (cases_Bool (u == t)) (inserted-rows us (with_row s u (new_values schema g ms vs u)) t)
    where
      s1 : State
      s1 = with_row s u (new_values schema g ms vs u)

      once : (is_among u us ≡ false) × (stands_twice us ≡ false)
      once = or_parts (is_among u us) (stands_twice us) o

      new : ℕ → Placed
      new n = record { id = n; row = record { values = new_values schema g ms vs t } }

      go : ((u == t) ≡ true) ⊎ ((u == t) ≡ false) → (is_among t us ≡ true → stands_twice us ≡ false → t < length s1.tables → rows_of (with_rows schema g ms vs us s1) t ≡ rows_of s1 t ++ (record { id = s1.next + place us t; row = record { values = new_values schema g ms vs t } } ∷ [])) → rows_of (with_rows schema g ms vs us s1) t ≡ rows_of s t ++ (record { id = s.next + place (u ∷ us) t; row = record { values = new_values schema g ms vs t } } ∷ [])
      go (inl e) ih =
          let z : s.next ≡ s.next + 0 = omega arith in
          other-rows schema g ms vs us s1 t (ap (λ n. is_among n us) (sym (eqb-true u t e)) ∙ once.0)
          ∙ ap (λ n. rows_of (with_row s n (new_values schema g ms vs n)) t) (eqb-true u t e)
          ∙ inserted-row s t (new_values schema g ms vs t) l
          ∙ ap (λ n. rows_of s t ++ (new n ∷ [])) z
          ∙ ap (λ b. rows_of s t ++ (new (s.next + cond b 0 (place us t + 1)) ∷ [])) (sym e)
      go (inr e) ih =
          let z : s.next + 1 + place us t ≡ s.next + (place us t + 1) = omega arith in
          ih (ap (λ b. b || is_among t us) (sym e) ∙ h) once.1 (omega (arith, l, numbered-length (λ n rows. cond (n == u) (rows ++ (record { id = s.next; row = record { values = new_values schema g ms vs u } } ∷ [])) rows) 0 s.tables))
          ∙ ap (λ rows. rows ++ (new (s.next + 1 + place us t) ∷ [])) (other-row s t u (new_values schema g ms vs u) (other-way t u e))
          ∙ ap (λ n. rows_of s t ++ (new n ∷ [])) z
          ∙ ap (λ b. rows_of s t ++ (new (s.next + cond b 0 (place us t + 1)) ∷ [])) (sym e)

-- ---- values by class

class-written : (s : Setting) (e : Env) (ms : List Joined) (vs : List Assign) (c : ColId) → class_value s.given ms vs c ≡ value_of s e (class_atom ms vs c)
class-written s e ms [] c = refl
class-written s e ms (a ∷ rest) c = go (same_col (leader ms a.column) (leader ms c)) (class-written s e ms rest c)
  where
    go : (b : Bool) → class_value s.given ms rest c ≡ value_of s e (class_atom ms rest c) → cond b (scalar_value s.given a.value) (class_value s.given ms rest c) ≡ value_of s e (cond b (scalar_atom a.value) (class_atom ms rest c))
    go true ih = scalar-atom-value s e a.value
    go false ih = ih

numbered-index : {X Y : Type 0} (f : ℕ → Y) (n : ℕ) (xs : List X) (u : ℕ) (d : Y) → u < length xs → slice_index_or (numbered (λ m (x : X). f m) n xs) u d ≡ f (n + u)
numbered-index f n [] u d h = absurd (omega arith)
numbered-index f n (x ∷ xs) zero d h = let e : n ≡ n + zero = omega arith in ap f e
numbered-index f n (x ∷ xs) (suc u) d h = let e : (n + 1) + u ≡ n + suc u = omega arith in numbered-index f (n + 1) xs u d (omega (arith, h)) ∙ ap f e

differ : (schema : Schema) (a b : ColId) → has_column schema a ≡ true → has_column schema b ≡ false → same_col a b ≡ false
differ schema a b h k = go (cases_Bool (same_col a b))
  where
    go : (same_col a b ≡ true) ⊎ (same_col a b ≡ false) → same_col a b ≡ false
    go (inl e) =
        let q = and_parts (a.table == b.table) (a.column == b.column) e in
        let bad : true ≡ false = sym h ∙ ap₂ (λ t c. has_column schema (record { table = t; column = c })) (eqb-true a.table b.table q.0) (eqb-true a.column b.column q.1) ∙ k in cc
    go (inr e) = e

swap-differ : (schema : Schema) (a b : ColId) → has_column schema a ≡ false → has_column schema b ≡ true → same_col a b ≡ false
swap-differ schema a b h k = go (cases_Bool (same_col a b))
  where
    go : (same_col a b ≡ true) ⊎ (same_col a b ≡ false) → same_col a b ≡ false
    go (inl e) =
        let q = and_parts (a.table == b.table) (a.column == b.column) e in
        let bad : false ≡ true = sym h ∙ ap₂ (λ t c. has_column schema (record { table = t; column = c })) (eqb-true a.table b.table q.0) (eqb-true a.column b.column q.1) ∙ k in cc
    go (inr e) = e

module _ (schema : Schema) where
  abbrev InRange : List Joined → Type 0
  InRange ms = Each (λ (m : Joined). (has_column schema m.left ≡ true) × (has_column schema m.right ≡ true)) ms

  leader-in : (ms : List Joined) (c : ColId) → InRange ms → has_column schema c ≡ true → has_column schema (leader ms c) ≡ true
  leader-in [] c r h = h
  leader-in (m ∷ ms) c r h =
      cond-keeps (λ (x : ColId). has_column schema x ≡ true) (same_col (leader ms c) (leader ms m.right)) (leader ms m.left) (leader ms c) (leader-in ms m.left r.1 r.0.0) (leader-in ms c r.1 h)

  leader-out : (ms : List Joined) (c : ColId) → InRange ms → has_column schema c ≡ false → leader ms c ≡ c
  leader-out [] c r h = refl
  leader-out (m ∷ ms) c r h =
      ap (λ b. cond b (leader ms m.left) (leader ms c)) (swap-differ schema (leader ms c) (leader ms m.right) (ap (has_column schema) (leader-out ms c r.1 h) ∙ h) (leader-in ms m.right r.1 r.0.1))
      ∙ leader-out ms c r.1 h

  class-none : (ms : List Joined) (vs : List Assign) (c : ColId) → InRange ms → Each (λ (a : Assign). has_column schema a.column ≡ true) vs → has_column schema c ≡ false → class_atom ms vs c ≡ class_atom ms [] c
  class-none ms [] c r w h = refl
  class-none ms (a ∷ rest) c r w h =
      ap (λ b. cond b (scalar_atom a.value) (class_atom ms rest c)) (differ schema (leader ms a.column) (leader ms c) (leader-in ms a.column r w.0) (ap (has_column schema) (leader-out ms c r h) ∙ h))
      ∙ class-none ms rest c r w.1 h

  -- the columns of the row that an insert adds
  pub class-column : (s : Setting) (e : Env) (ms : List Joined) (vs : List Assign) (t col : ℕ) → InRange ms → Each (λ (a : Assign). has_column schema a.column ≡ true) vs → slice_index_or (new_values schema s.given ms vs t) col no_value ≡ value_of s e (class_atom ms vs (record { table = t; column = col }))
  class-column s e ms vs t col r w = ⊎_elim inside behind (cases_lt col (length (columns_of schema t)))
    where
      inside : col < length (columns_of schema t) → slice_index_or (new_values schema s.given ms vs t) col no_value ≡ value_of s e (class_atom ms vs (record { table = t; column = col }))
      inside l =
          let k : 0 + col ≡ col = omega arith in
          numbered-index (λ n. class_value s.given ms vs (record { table = t; column = n })) 0 (columns_of schema t) col no_value l
          ∙ ap (λ n. class_value s.given ms vs (record { table = t; column = n })) k
          ∙ class-written s e ms vs (record { table = t; column = col })

      none : length (columns_of schema t) ≤ col → has_column schema (record { table = t; column = col }) ≡ false
      none l = go (cases_Bool (has_column schema (record { table = t; column = col })))
        where
          go : (has_column schema (record { table = t; column = col }) ≡ true) ⊎ (has_column schema (record { table = t; column = col }) ≡ false) → has_column schema (record { table = t; column = col }) ≡ false
          go (inl h) = let b = ltb-true col (length (columns_of schema t)) (and_parts (has_table schema t) (nat_lt col (length (columns_of schema t))) h).1 in absurd (omega (arith, b, l))
          go (inr h) = h

      behind : length (columns_of schema t) ≤ col → slice_index_or (new_values schema s.given ms vs t) col no_value ≡ value_of s e (class_atom ms vs (record { table = t; column = col }))
      behind l =
          let k = numbered-length (λ n (c : Column). class_value s.given ms vs (record { table = t; column = n })) 0 (columns_of schema t) in
          get_or_past (new_values schema s.given ms vs t) col no_value (omega (arith, l, k))
          ∙ ap (value_of s e) (sym (class-none ms vs (record { table = t; column = col }) r w (none l)))

-- ---- hosts

joins-in-range : (schema : Schema) (ts : List ℕ) (ms : List Joined) → Each (JoinFits schema ts) ms → InRange schema ms
joins-in-range schema ts [] h = tt
joins-in-range schema ts (m ∷ ms) h = ((h.0.left.1, h.0.right.1), joins-in-range schema ts ms h.1)

-- a variable that ranges over the rows of another is that variable
same-var : (u x : Var) → is_same u x ≡ true → x ≡ u
same-var u x h =
    let a = and_parts (same_side x.side u.side) (x.table == u.table && x.stage == u.stage) h in
    let b = and_parts (x.table == u.table) (x.stage == u.stage) a.1 in
    ap (λ (d : Side). record { side = d; table = x.table; stage = x.stage }) (one-side x.side u.side a.0)
    ∙ ap₂ (λ t j. record { side = u.side; table = t; stage = j }) (eqb-true x.table u.table b.0) (eqb-true x.stage u.stage b.1)
  where
    one-side : (a b : Side) → same_side a b ≡ true → a ≡ b
    one-side Old Old h = refl
    one-side New New h = refl
    one-side Old New h = cc
    one-side New Old h = cc

pub insert-alike : (p : Sides) (m : Moment) (f : Function) (t : Term) (i : ℕ) (u : Var) → LedTo p m t i u → ((side : Side) (j : ℕ) → IsState (schema_of p side) (stage_of p m side j)) → (join : Join) (values : List Assign) → slice_get (statements_at p u.side) (u.stage - 1) ≡ Some (Insert join values) → IsTypedPiece (schema_of p u.side) f (piece_of (Insert join values)) → has_table (schema_of p u.side) u.table ≡ true → is_among u.table (tables_of join) ≡ true → (sc : List Var) (e : Env) → In e (choices (setting_of p m) sc) → host_narrows u (length e + i) sc t ≡ true → HostsAlike (setting_of p m) e t (insert_hosts (length e) i u join values t)
insert-alike p m f t i u led states join values h typed table among sc e choice may =
    alike s e t (insert_hosts (length e) i u join values t) (λ w.
    sum (host_weight s e w (before_statement i t)) (host_weight s e w (host_without v i to (narrowed_host u v (length e) t)))
    ∙ ap₂ (λ a b. a + b) (ap (λ vs. host_sum s e (λ c. w (head_of s t.head c)) vs t.lits) (before-vars t i u led.own))
    (ap₂ (λ (vs : List Var) n. host_sum s e (λ c. w (head_of s (map (without v to) t.head) c)) vs (map (lit_with (without v to) (below v)) (narrow_list u v n t.lits))) left-vars in-all)
    ∙ sym (host-insert_named s u new v rows old sc e (λ c. w (head_of s t.head c)) (λ c. w (head_of s (map (without v to) t.head) c)) front back t.lits to long at apart own-rows ok columns
    (λ c d r. ap w (head-reads s any_atom (is_not v) (without v to) (below v) _ _ r t.head (all-any_atom t.head))))
    ∙ ap (λ vs. host_sum s e (λ c. w (head_of s t.head c)) vs t.lits) (sym parts.0))
  where
    s : Setting
    s = setting_of p m

    st : State
    st = stage_of p m u.side (u.stage - 1)

    v : ℕ
    v = length e + i

    to : ℕ → Atom
    to c = class_atom join.more values (record { table = u.table; column = c })

    front : List Var
    front = take i t.vars

    back : List Var
    back = drop (i + 1) t.vars

    parts : (t.vars ≡ front ++ (u ∷ back)) × (length front ≡ i)
    parts = parts-at t.vars i u led.own

    long : length e ≡ length sc
    long = choice-length s sc e choice

    at : length e + length front ≡ v
    at = ap (λ n. length e + n) parts.1

    new : Placed
    new = record { id = st.next + place (tables_of join) u.table; row = record { values = new_values (schema_of p u.side) m.given join.more values u.table } }

    sum : (a b : ℕ) → a + (b + 0) ≡ a + b
    sum a b = omega arith

    there : u.table < length st.tables
    there = omega (arith, ltb-true u.table (length (schema_of p u.side).tables) table, led.state.count)

    own-rows : s.rows u ≡ s.rows (var_before u) ++ (new ∷ [])
    own-rows =
        stage-rows p m t i u led (Insert join values) h
        ∙ inserted-rows (schema_of p u.side) m.given join.more values (tables_of join) st u.table among (or_parts (stands_twice (tables_of join)) false typed.once).0 there

    rows : (x : Var) → is_same u x ≡ true → s.rows x ≡ s.rows (var_before x) ++ (new ∷ [])
    rows x e = subst (λ (y : Var). s.rows y ≡ s.rows (var_before y) ++ (new ∷ [])) (sym (same-var u x e)) own-rows

    -- rows of earlier stages have other ids
    old : (x : Var) → is_older u (Some x) ≡ true → Each (λ (q : Placed). q.id ≢ new.id) (s.rows x)
    old x o =
        let a = and_parts (same_side x.side u.side) (x.table == u.table && nat_lt x.stage u.stage) o in
        let b = and_parts (x.table == u.table) (nat_lt x.stage u.stage) a.1 in
        let l = ltb-true x.stage u.stage b.1 in
        let side : x.side ≡ u.side = one-side x.side u.side a.0 in
        let grow = stages-grow p m x.side x.stage (u.stage - 1) (omega (arith, l)) in
        let most : (stage_of p m x.side (u.stage - 1)).next ≡ st.next = ap (λ (d : Side). (stage_of p m d (u.stage - 1)).next) side in
        each-weaker (λ (q : Placed). q.id < (stage_of p m x.side x.stage).next) (λ (q : Placed). q.id ≢ new.id)
        (λ (q : Placed) k r. absurd (omega (arith, k, grow, most, r)))
        (s.rows x) ((states x.side x.stage).each x.table).below
      where
        one-side : (a b : Side) → same_side a b ≡ true → a ≡ b
        one-side Old Old h = refl
        one-side New New h = refl
        one-side Old New h = cc
        one-side New Old h = cc

    picks : Picks (map s.rows sc) e
    picks = each-in (Picks (map s.rows sc)) e (choices s sc) (product_picks (map s.rows sc)) choice

    apart : Apart s u new v rows old sc e
    apart w x q o = picks-old s u new v rows old sc e picks w x q o

    ok : list_narrows u v (sc ++ (front ++ (u ∷ back))) (sc ++ narrowed u v (length sc) t.lits (front ++ (u ∷ back))) t.lits ≡ true
    ok = ap (λ (vs : List Var). list_narrows u v (sc ++ vs) (sc ++ narrowed u v (length sc) t.lits vs) t.lits) (sym parts.0) ∙ may

    left-vars : leaving_out i (narrowed u v (length e) t.lits t.vars) ≡ narrowed u v (length e) t.lits front ++ narrowed u v (v + 1) t.lits back
    left-vars =
        ap (leaving_out i) (ap (narrowed u v (length e) t.lits) parts.0 ∙ narrowed-split s u new v rows old (length e) t.lits front back at)
        ∙ leaving-middle (narrowed u v (length e) t.lits front) u (narrowed u v (v + 1) t.lits back) i (narrowed_length u v (length e) t.lits front ∙ parts.1)

    in-all : length e + length t.vars ≡ length e + (length front + suc (length back))
    in-all = omega (arith, ap length parts.0, length-append front (u ∷ back))

    columns : (g : Env) (col : ℕ) → value_at new col ≡ value_of s g (to col)
    columns g col =
        class-column (schema_of p u.side) s g join.more values u.table col
        (joins-in-range (schema_of p u.side) (tables_of join) join.more (join-fits (schema_of p u.side) (piece_of (Insert join values)) typed.tables typed.columns typed.shape typed.joined))
        (written-in-range (schema_of p u.side) (piece_of (Insert join values)) typed.columns)
