-- States whose rows are changed stay states over their layout.
use Rattle.std.proofs.Common.{◌≡◌, ◌≢◌, ℕ, zero, suc, ◌+◌, ◌<◌, ◌≤◌, ◌⊎◌, inl, inr, Bool, true, cond, List, [], ◌∷◌, ◌++◌, map, set, get_or, length, refl, sym, ap, ◌∙◌, subst, arith}
use Rattle.std.specs.Prelude.{filter, ◌==◌, ◌&&◌}
use Rattle.std.proofs.lemmas.Bool.{cases_eq, and_parts, and_from}
use Rattle.std.proofs.lemmas.List.{length-set, get_or-set_same, get_or-set_other}
use Rattle.mig_schema.specs.declared.tables.Column.{Column}
use Rattle.mig_schema.specs.declared.tables.Kind.{Kind}
use Rattle.mig_schema.specs.declared.tables.Kind.TheVariants as kind
use Rattle.mig_schema.specs.declared.tables.Schema.{Schema}
use Rattle.mig_schema.specs.declared.tables.Table.{Table}
use Rattle.mig_schema.specs.declared.values.Value.{Value}
use Rattle.mig_schema.specs.Columns.{columns_of, no_table}
use Rattle.mig_meaning.specs.declared.states.Placed.{Placed}
use Rattle.mig_meaning.specs.declared.states.State.{State}
use Rattle.mig_meaning.specs.Effect.{with_row, with_value}
use Rattle.mig_meaning.specs.Lists.{Each, In}
use Rattle.mig_meaning.specs.Rows.{rows_of}
use Rattle.mig_meaning.specs.States.{row_fits, Rising, IsTable, IsState}
use Rattle.mig_meaning.specs.Values.{of_kind}
use Rattle.mig_meaning.proofs.Lists.{in-either, in-filter}
use Rattle.mig_meaning.proofs.Rising.{rising-append, rising-filter}
use Rattle.mig_meaning.proofs.StateLaw.{each-in}
use Rattle.mig_meaning.proofs.Within.{each-weaker, each-append, each-filter, each-map, cond-keeps}
use Rattle.mig_storage.specs.Changes.{changed_at, written}
use Rattle.mig_storage.specs.Layout.{Layout, layout_of, kinds_at, kind_at, of_kinds}
use Rattle.mig_storage.specs.Meaning.{FitsLayout}
use Rattle.mig_storage.proofs.Numbered.{changed-set}

-- ---- rows of a layout
pub row_fits-kinds : (cs : List Column) (vs : List Value) → row_fits cs vs ≡ of_kinds (map (λ (c : Column). c.kind) cs) vs
row_fits-kinds [] [] = refl
row_fits-kinds [] (v ∷ vs) = refl
row_fits-kinds (c ∷ cs) [] = refl
row_fits-kinds (c ∷ cs) (v ∷ vs) = ap (λ b. of_kind c.kind v && b) (row_fits-kinds cs vs)

pub kinds_at-schema : (schema : Schema) (t : ℕ) → kinds_at (layout_of schema) t ≡ map (λ (c : Column). c.kind) (columns_of schema t)
kinds_at-schema schema t = go schema.tables t
  where
    go : (ts : List Table) (n : ℕ) → get_or (map (λ (u : Table). map (λ (c : Column). c.kind) u.columns) ts) n [] ≡ map (λ (c : Column). c.kind) (get_or ts n no_table).columns
    go [] n = refl
    go (u ∷ ts) zero = refl
    go (u ∷ ts) (suc n) = go ts n

-- a row of the layout's kinds is a row of the schema's
pub fits-row : (layout : Layout) (schema : Schema) (t : ℕ) (vs : List Value) → layout_of schema ≡ layout → of_kinds (kinds_at layout t) vs ≡ true → row_fits (columns_of schema t) vs ≡ true
fits-row layout schema t vs same h =
    row_fits-kinds (columns_of schema t) vs ∙ ap (λ ks. of_kinds ks vs) (sym (kinds_at-schema schema t) ∙ ap (λ l. kinds_at l t) same) ∙ h

-- ---- changes of one table
-- where a row after a change comes from: it has the id of a row before, or one that no row had
abbrev Origin : List Placed → ℕ → Placed → Type 0
Origin rows next p = ((q : Placed) × In q rows × (p.id ≡ q.id)) ⊎ (next ≤ p.id)

table-later : (cs : List Column) (n m : ℕ) (rows : List Placed) → n ≤ m → IsTable cs n rows → IsTable cs m rows
table-later cs n m rows h t = record { rising = t.rising; below = each-weaker _ _ (λ (p : Placed) k. omega (arith, h, k)) rows t.below; fitting = t.fitting }

module _ (schema : Schema) (s : State) (t next : ℕ) (rows : List Placed) (st : IsState schema s) (within : t < length s.tables) (later : s.next ≤ next) (table : IsTable (columns_of schema t) next rows) (origin : (p : Placed) → In p rows → Origin (rows_of s t) s.next p) where
  at : (u : ℕ) → ((u ≡ t) × (get_or (set s.tables t rows) u [] ≡ rows)) ⊎ (get_or (set s.tables t rows) u [] ≡ rows_of s u)
  at u = go (cases_eq u t)
    where
      go : (u ≡ t) ⊎ (u ≢ t) → ((u ≡ t) × (get_or (set s.tables t rows) u [] ≡ rows)) ⊎ (get_or (set s.tables t rows) u [] ≡ rows_of s u)
      go (inl e) = inl (e, ap (λ n. get_or (set s.tables t rows) n []) e ∙ get_or-set_same s.tables t rows [] within)
      go (inr n) = inr (get_or-set_other s.tables t u rows [] n)

  each : (u : ℕ) → IsTable (columns_of schema u) next (get_or (set s.tables t rows) u [])
  each u = go (at u)
    where
      go : ((u ≡ t) × (get_or (set s.tables t rows) u [] ≡ rows)) ⊎ (get_or (set s.tables t rows) u [] ≡ rows_of s u) → IsTable (columns_of schema u) next (get_or (set s.tables t rows) u [])
      go (inl e) = subst (IsTable (columns_of schema u) next) (sym e.1) (subst (λ n. IsTable (columns_of schema n) next rows) (sym e.0) table)
      go (inr e) = subst (IsTable (columns_of schema u) next) (sym e) (table-later (columns_of schema u) s.next next (rows_of s u) later (st.each u))

  from : (u : ℕ) (p : Placed) → In p (get_or (set s.tables t rows) u []) → ((q : Placed) × In q (rows_of s u) × (p.id ≡ q.id)) ⊎ ((u ≡ t) × (s.next ≤ p.id))
  from u p h = go (at u)
    where
      new : u ≡ t → Origin (rows_of s t) s.next p → ((q : Placed) × In q (rows_of s u) × (p.id ≡ q.id)) ⊎ ((u ≡ t) × (s.next ≤ p.id))
      new e (inl o) = inl (o.0, subst (λ n. In o.0 (rows_of s n)) (sym e) o.1, o.2)
      new e (inr o) = inr (e, o)

      go : ((u ≡ t) × (get_or (set s.tables t rows) u [] ≡ rows)) ⊎ (get_or (set s.tables t rows) u [] ≡ rows_of s u) → ((q : Placed) × In q (rows_of s u) × (p.id ≡ q.id)) ⊎ ((u ≡ t) × (s.next ≤ p.id))
      go (inl e) = new e.0 (origin p (subst (In p) e.1 h))
      go (inr e) = inl (p, subst (In p) e h, refl)

  old : (u : ℕ) (p : Placed) → In p (rows_of s u) → p.id < s.next
  old u p h = each-in (λ (r : Placed). r.id < s.next) p (rows_of s u) (st.each u).below h

  -- a state with other rows in a table, whose ids are old ones of that table or new, is a state
  pub changed-state : IsState schema (record { tables = set s.tables t rows; next = next })
  changed-state = record {
    count = length-set s.tables t rows ∙ st.count;
    each = each;
    apart = λ u v p q h k e. go u v p q e (from u p h) (from v q k);
  }
    where
      go : (u v : ℕ) (p q : Placed) → p.id ≡ q.id → ((a : Placed) × In a (rows_of s u) × (p.id ≡ a.id)) ⊎ ((u ≡ t) × (s.next ≤ p.id)) → ((a : Placed) × In a (rows_of s v) × (q.id ≡ a.id)) ⊎ ((v ≡ t) × (s.next ≤ q.id)) → u ≡ v
      go u v p q e (inl a) (inl b) = st.apart u v a.0 b.0 a.1 b.1 (sym a.2 ∙ e ∙ b.2)
      go u v p q e (inl a) (inr b) = absurd (omega (arith, old u a.0 a.1, a.2, e, b.1))
      go u v p q e (inr a) (inl b) = absurd (omega (arith, old v b.0 b.1, b.2, e, a.1))
      go u v p q e (inr a) (inr b) = a.0 ∙ sym b.0

-- ---- a new row
abbrev new_row : State → List Value → Placed
new_row s vs = record { id = s.next; row = record { values = vs } }

pub fits-new : (layout : Layout) (s : State) (t : ℕ) (vs : List Value) → FitsLayout layout s → t < length s.tables → of_kinds (kinds_at layout t) vs ≡ true → FitsLayout layout (with_row s t vs)
fits-new layout s t vs fits within kinds schema same =
    let st : IsState schema s = fits schema same in
    let old : IsTable (columns_of schema t) s.next (rows_of s t) = st.each t in
    let rows : List Placed = rows_of s t ++ new_row s vs ∷ [] in
    let table : IsTable (columns_of schema t) (s.next + 1) rows = record {
      rising = rising-append (rows_of s t) (new_row s vs) old.rising old.below;
      below = each-append _ (rows_of s t) _ (each-weaker _ _ (λ (p : Placed) k. omega (arith, k)) (rows_of s t) old.below) (omega arith, tt);
      fitting = each-append _ (rows_of s t) _ old.fitting (fits-row layout schema t vs same kinds, tt);
    } in
    subst (λ (ts : List (List Placed)). IsState schema (record { tables = ts; next = s.next + 1 })) (sym (changed-set (λ rs. rs ++ new_row s vs ∷ []) t s.tables rows [] refl))
    (changed-state schema s t (s.next + 1) rows st within (omega arith) table (λ p h. origin p (in-either p (rows_of s t) _ h)))
  where
    origin : (p : Placed) → In p (rows_of s t) ⊎ In p (new_row s vs ∷ []) → Origin (rows_of s t) s.next p
    origin p (inl h) = inl (p, h, refl)
    origin p (inr (inl e)) = let k : p.id ≡ s.next = ap (λ (r : Placed). r.id) e in inr (omega (arith, k))
    origin p (inr (inr h)) = absurd h

-- ---- rows removed
pub fits-filtered : (layout : Layout) (s : State) (t : ℕ) (keep : Placed → Bool) → FitsLayout layout s → t < length s.tables → FitsLayout layout (changed_at t (filter keep) s)
fits-filtered layout s t keep fits within schema same =
    let st : IsState schema s = fits schema same in
    let old : IsTable (columns_of schema t) s.next (rows_of s t) = st.each t in
    let rows : List Placed = filter keep (rows_of s t) in
    let table : IsTable (columns_of schema t) s.next rows = record {
      rising = rising-filter keep (rows_of s t) old.rising;
      below = each-filter _ keep (rows_of s t) old.below;
      fitting = each-filter _ keep (rows_of s t) old.fitting;
    } in
    subst (λ (ts : List (List Placed)). IsState schema (record { tables = ts; next = s.next })) (sym (changed-set (filter keep) t s.tables rows [] refl))
    (changed-state schema s t s.next rows st within (omega arith) table (λ p h. inl (p, in-filter keep p (rows_of s t) h, refl)))

-- ---- values written
module _ (f : Placed → Placed) (kept : (p : Placed) → (f p).id ≡ p.id) where
  each-kept : (R : ℕ → Type 0) (rows : List Placed) → Each (λ (p : Placed). R p.id) rows → Each (λ (p : Placed). R p.id) (map f rows)
  each-kept R rows a = each-map (λ (p : Placed). R p.id) (λ (p : Placed). R p.id) f (λ p h. subst R (sym (kept p)) h) rows a

  rising-map : (rows : List Placed) → Rising rows → Rising (map f rows)
  rising-map [] r = tt
  rising-map (x ∷ xs) r = (each-kept (λ n. (f x).id < n) xs (each-weaker _ _ (λ (q : Placed) h. subst (λ n. n < q.id) (sym (kept x)) h) xs r.0), rising-map xs r.1)

  in-mapped : (p : Placed) (rows : List Placed) → In p (map f rows) → (q : Placed) × In q rows × (p.id ≡ q.id)
  in-mapped p [] h = absurd h
  in-mapped p (x ∷ xs) (inl e) = (x, inl refl, ap (λ (r : Placed). r.id) e ∙ kept x)
  in-mapped p (x ∷ xs) (inr h) = let k = in-mapped p xs h in (k.0, inr k.1, k.2)

-- a value of the kind of column c keeps a row's kinds
of_kinds-set : (ks : List Kind) (vs : List Value) (c : ℕ) (v : Value) → of_kind (get_or ks c kind.Int) v ≡ true → of_kinds ks vs ≡ true → of_kinds ks (set vs c v) ≡ true
of_kinds-set ks [] c v k h = h
of_kinds-set [] (x ∷ xs) c v k h = cc
of_kinds-set (d ∷ ks) (x ∷ xs) zero v k h = and_from _ _ k (and_parts (of_kind d x) (of_kinds ks xs) h).1
of_kinds-set (d ∷ ks) (x ∷ xs) (suc c) v k h = let p = and_parts (of_kind d x) (of_kinds ks xs) h in and_from _ _ p.0 (of_kinds-set ks xs c v k p.1)

abbrev one_written : (id c : ℕ) → Value → Placed → Placed
one_written id c v p = cond (p.id == id) (with_value c v p) p

one-kept : (id c : ℕ) (v : Value) (p : Placed) → (one_written id c v p).id ≡ p.id
one-kept id c v p = cond-keeps (λ (q : Placed). q.id ≡ p.id) (p.id == id) (with_value c v p) p refl refl

pub fits-written : (layout : Layout) (s : State) (t id c : ℕ) (v : Value) → FitsLayout layout s → t < length s.tables → of_kind (kind_at layout t c) v ≡ true → FitsLayout layout (written t id c v s)
fits-written layout s t id c v fits within k schema same =
    let st : IsState schema s = fits schema same in
    let old : IsTable (columns_of schema t) s.next (rows_of s t) = st.each t in
    let rows : List Placed = map (one_written id c v) (rows_of s t) in
    let table : IsTable (columns_of schema t) s.next rows = record {
      rising = rising-map (one_written id c v) (one-kept id c v) (rows_of s t) old.rising;
      below = each-kept (one_written id c v) (one-kept id c v) (λ n. n < s.next) (rows_of s t) old.below;
      fitting = each-map _ _ (one_written id c v) (λ p h. cond-keeps (λ (q : Placed). row_fits (columns_of schema t) q.row.values ≡ true) (p.id == id) (with_value c v p) p (written-fits p h) h) (rows_of s t) old.fitting;
    } in
    subst (λ (ts : List (List Placed)). IsState schema (record { tables = ts; next = s.next })) (sym (changed-set (map (one_written id c v)) t s.tables rows [] refl))
    (changed-state schema s t s.next rows st within (omega arith) table (λ p h. inl (in-mapped (one_written id c v) (one-kept id c v) p (rows_of s t) h)))
  where
    kinds : kinds_at layout t ≡ map (λ (x : Column). x.kind) (columns_of schema t)
    kinds = ap (λ l. kinds_at l t) (sym same) ∙ kinds_at-schema schema t

    written-fits : (p : Placed) → row_fits (columns_of schema t) p.row.values ≡ true → row_fits (columns_of schema t) (with_value c v p).row.values ≡ true
    written-fits p h =
        ap (row_fits (columns_of schema t)) (changed-set (λ (x : Value). v) c p.row.values v v refl)
        ∙ (row_fits-kinds (columns_of schema t) (set p.row.values c v)
        ∙ of_kinds-set (map (λ (x : Column). x.kind) (columns_of schema t)) p.row.values c v (ap (λ ks. of_kind (get_or ks c kind.Int) v) (sym kinds) ∙ k) (sym (row_fits-kinds (columns_of schema t) p.row.values) ∙ h))
