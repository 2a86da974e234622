-- States stay states.
use Rattle.std.proofs.Common.{◌≡◌, ◌≢◌, ℕ, zero, suc, ◌+◌, ◌<◌, Bool, true, false, cond, not, List, [], ◌∷◌, ◌++◌, map, length, refl, sym, ap, ◌∙◌, arith, inl, inr, ◌⊎◌, subst, get_or}
use Rattle.std.specs.Prelude.{filter, ◌==◌}
use Rattle.std.specs.List.{list_any}
use Rattle.std.proofs.Math.ListN.{get_or-map}
use Rattle.std.proofs.lemmas.Bool.{and_parts, and_from}
use Rattle.std.proofs.lemmas.Bool.Decides.{eqb_tells}
use Rattle.mig_schema.specs.declared.values.Value.{Value}
use Rattle.mig_schema.specs.declared.tables.ColId.{ColId}
use Rattle.mig_schema.specs.declared.tables.Column.{Column}
use Rattle.mig_schema.specs.declared.tables.Table.{Table}
use Rattle.mig_schema.specs.declared.programs.Joined.{Joined}
use Rattle.mig_schema.specs.declared.programs.Assign.{Assign}
use Rattle.mig_schema.specs.declared.tables.Schema.{Schema}
use Rattle.mig_schema.specs.declared.programs.Stmt.{Stmt}
use Rattle.mig_schema.specs.declared.programs.Stmt.TheVariants.{Insert, Delete, Set}
use Rattle.mig_schema.specs.declared.programs.Body.{Body}
use Rattle.mig_schema.specs.declared.programs.Body.TheVariants as body
use Rattle.mig_meaning.specs.declared.states.Placed.{Placed}
use Rattle.mig_meaning.specs.declared.states.State.{State}
use Rattle.mig_base.specs.Lists.{numbered}
use Rattle.mig_schema.specs.Columns.{columns_of}
use Rattle.mig_schema.specs.Joins.{tables_of}
use Rattle.mig_meaning.specs.Lists.{Each, In}
use Rattle.mig_meaning.specs.Values.{of_kind}
use Rattle.mig_meaning.specs.Rows.{JoinRow, empty_state, rows_of}
use Rattle.mig_meaning.specs.Conditions.{Given, met_rows, scalar_value}
use Rattle.mig_meaning.specs.Effect.{new_values, with_row, with_rows, takes_part, without_rows, with_value, with_set, effect, after_all, after}
use Rattle.mig_meaning.specs.States.{row_fits, Rising, IsTable, IsState}
use Rattle.mig_meaning.proofs.Writing.{SetFits, WritesKinds, BodyWritesKinds}
use Rattle.mig_meaning.proofs.Lists.{in-either, in-filter}
use Rattle.mig_meaning.proofs.Rising.{rising-append, rising-filter}
use Rattle.mig_meaning.proofs.Within.{each-weaker, each-append, each-filter, each-map}

pub each-in : {X : Type 0} (P : X → Type 0) (x : X) (xs : List X) → Each P xs → In x xs → P x
each-in P x [] a h = absurd h
each-in P x (y ∷ ys) a (inl e) = subst P (sym e) a.0
each-in P x (y ∷ ys) a (inr h) = each-in P x ys a.1 h

numbered-count : {X Y : Type 0} (F : ℕ → X → Y) (n : ℕ) (xs : List X) → length (numbered F n xs) ≡ length xs
numbered-count F n [] = refl
numbered-count F n (x ∷ xs) = ap suc (numbered-count F (n + 1) xs)

-- a property of a table after a change of each table by its number
numbered-get : {X : Type 0} (Q : List X → Type 0) → Q [] → (F : ℕ → List X → List X) (n : ℕ) (xs : List (List X)) (u : ℕ) → Q (F (n + u) (get_or xs u [])) → Q (get_or (numbered F n xs) u [])
numbered-get Q none F n [] u h = none
numbered-get Q none F n (x ∷ xs) zero h = let e : n + 0 ≡ n = omega arith in subst (λ m. Q (F m x)) e h
numbered-get Q none F n (x ∷ xs) (suc u) h = let e : n + suc u ≡ (n + 1) + u = omega arith in numbered-get Q none F (n + 1) xs u (subst (λ m. Q (F m (get_or xs u []))) e h)

no_table : (cs : List Column) (n : ℕ) → IsTable cs n []
no_table cs n = record { rising = tt; below = tt; fitting = tt }

-- where a row after a change comes from: it has the id of a row before, or it is new
abbrev Origin : ℕ → ℕ → ℕ → List Placed → Placed → Type 0
Origin at next t rows p = ((q : Placed) × In q rows × (p.id ≡ q.id)) ⊎ ((t ≡ at) × (p.id ≡ next))

changed-state : (schema : Schema) (s : State) (F : ℕ → List Placed → List Placed) (at next : ℕ) → IsState schema s → ((t : ℕ) (rows : List Placed) → IsTable (columns_of schema t) s.next rows → IsTable (columns_of schema t) next (F t rows)) → ((t : ℕ) (rows : List Placed) (p : Placed) → In p (F t rows) → Origin at s.next t rows p) → IsState schema (record { tables = numbered F 0 s.tables; next = next })
changed-state schema s F at next st each origin = record {
  count = numbered-count F 0 s.tables ∙ st.count;
  each = λ t. numbered-get (IsTable (columns_of schema t) next) (no_table (columns_of schema t) next) F 0 s.tables t (number (λ m. IsTable (columns_of schema t) next (F m (rows_of s t))) t (each t (rows_of s t) (st.each t)));
  apart = λ t u p q h k e. go t u p q e (from t p h) (from u q k);
}
  where
    number : (R : ℕ → Type 0) (t : ℕ) → R t → R (0 + t)
    number R t r = let e : t ≡ 0 + t = omega arith in subst R e r

    from : (t : ℕ) (p : Placed) → In p (get_or (numbered F 0 s.tables) t []) → Origin at s.next t (rows_of s t) p
    from t p = numbered-get (λ rows. In p rows → Origin at s.next t (rows_of s t) p) (λ h. absurd h) F 0 s.tables t (number (λ m. In p (F m (rows_of s t)) → Origin at s.next t (rows_of s t) p) t (origin t (rows_of s t) p))

    old : (t : ℕ) (p : Placed) → In p (rows_of s t) → p.id < s.next
    old t p h = each-in (λ (r : Placed). r.id < s.next) p (rows_of s t) (st.each t).below h

    go : (t u : ℕ) (p q : Placed) → p.id ≡ q.id → Origin at s.next t (rows_of s t) p → Origin at s.next u (rows_of s u) q → t ≡ u
    go t u p q e (inl a) (inl b) = st.apart t u a.0 b.0 a.1 b.1 (sym a.2 ∙ e ∙ b.2)
    go t u p q e (inl a) (inr b) = absurd (omega (arith, old t a.0 a.1, a.2, e, b.1))
    go t u p q e (inr a) (inl b) = absurd (omega (arith, old u b.0 b.1, b.2, e, a.1))
    go t u p q e (inr a) (inr b) = a.0 ∙ sym b.0

-- ---- insert
table-later : (cs : List Column) (n : ℕ) (rows : List Placed) → IsTable cs n rows → IsTable cs (n + 1) rows
table-later cs n rows t = record { rising = t.rising; below = each-weaker _ _ (λ (p : Placed) h. omega (arith, h)) rows t.below; fitting = t.fitting }

with_row-state : (schema : Schema) (s : State) (t : ℕ) (vs : List Value) → IsState schema s → row_fits (columns_of schema t) vs ≡ true → IsState schema (with_row s t vs)
with_row-state schema s t vs st fits = changed-state schema s _ t (s.next + 1) st (λ u rows h. table u rows h (eqb_tells u t)) (λ u rows p h. origin u rows p (eqb_tells u t) h)
  where
    new : Placed
    new = record { id = s.next; row = record { values = vs } }

    table : (u : ℕ) (rows : List Placed) → IsTable (columns_of schema u) s.next rows → ((u == t) ≡ true) × (u ≡ t) ⊎ ((u == t) ≡ false) × (u ≢ t) → IsTable (columns_of schema u) (s.next + 1) (cond (u == t) (rows ++ ((record { id = s.next; row = record { values = vs } }) ∷ [])) rows)
    table u rows h (inl e) =
        subst (λ b. IsTable (columns_of schema u) (s.next + 1) (cond b (rows ++ ((record { id = s.next; row = record { values = vs } }) ∷ [])) rows)) (sym e.0)
        (record {
          rising = rising-append rows (record { id = s.next; row = record { values = vs } }) h.rising h.below;
          below = each-append _ rows _ (each-weaker _ _ (λ (p : Placed) k. omega (arith, k)) rows h.below) (omega arith, tt);
          fitting = each-append _ rows _ h.fitting (ap (λ m. row_fits (columns_of schema m) vs) e.1 ∙ fits, tt);
        })
    table u rows h (inr e) = subst (λ b. IsTable (columns_of schema u) (s.next + 1) (cond b (rows ++ ((record { id = s.next; row = record { values = vs } }) ∷ [])) rows)) (sym e.0) (table-later (columns_of schema u) s.next rows h)

    split : (u : ℕ) (rows : List Placed) (p : Placed) → u ≡ t → In p rows ⊎ In p ((record { id = s.next; row = record { values = vs } }) ∷ []) → Origin t s.next u rows p
    split u rows p e (inl h) = inl (p, h, refl)
    split u rows p e (inr (inl k)) = inr (e, ap (λ (r : Placed). r.id) k)
    split u rows p e (inr (inr k)) = absurd k

    origin : (u : ℕ) (rows : List Placed) (p : Placed) → ((u == t) ≡ true) × (u ≡ t) ⊎ ((u == t) ≡ false) × (u ≢ t) → In p (cond (u == t) (rows ++ ((record { id = s.next; row = record { values = vs } }) ∷ [])) rows) → Origin t s.next u rows p
    origin u rows p (inl e) h = split u rows p e.1 (in-either p rows _ (subst (λ b. In p (cond b (rows ++ ((record { id = s.next; row = record { values = vs } }) ∷ [])) rows)) e.0 h))
    origin u rows p (inr e) h = inl (p, subst (λ b. In p (cond b (rows ++ ((record { id = s.next; row = record { values = vs } }) ∷ [])) rows)) e.0 h, refl)

with_rows-state : (schema : Schema) (g : Given) (ms : List Joined) (vs : List Assign) (ts : List ℕ) (s : State) → IsState schema s → ((t : ℕ) → In t ts → row_fits (columns_of schema t) (new_values schema g ms vs t) ≡ true) → IsState schema (with_rows schema g ms vs ts s)
with_rows-state schema g ms vs [] s st fits = st
with_rows-state schema g ms vs (t ∷ ts) s st fits =
    with_rows-state schema g ms vs ts (with_row s t (new_values schema g ms vs t)) (with_row-state schema s t (new_values schema g ms vs t) st (fits t (inl refl))) (λ u h. fits u (inr h))

-- ---- delete
without_rows-state : (schema : Schema) (ts : List ℕ) (es : List JoinRow) (listed : List ℕ) (s : State) → IsState schema s → IsState schema (without_rows ts es listed s)
without_rows-state schema ts es listed s st =
    changed-state schema s _ 0 s.next st (λ u rows h. table u rows h (list_any (λ t. t == u) listed)) (λ u rows p h. inl (p, origin u rows p (list_any (λ t. t == u) listed) h, refl))
  where
    table : (u : ℕ) (rows : List Placed) → IsTable (columns_of schema u) s.next rows → (b : Bool) → IsTable (columns_of schema u) s.next (cond b (filter (λ p. not (takes_part ts es u p)) rows) rows)
    table u rows h true = record { rising = rising-filter _ rows h.rising; below = each-filter _ _ rows h.below; fitting = each-filter _ _ rows h.fitting }
    table u rows h false = h

    origin : (u : ℕ) (rows : List Placed) (p : Placed) (b : Bool) → In p (cond b (filter (λ p. not (takes_part ts es u p)) rows) rows) → In p rows
    origin u rows p true h = in-filter _ p rows h
    origin u rows p false h = h

-- ---- set
with_value-fits : (c : ℕ) (v : Value) (n : ℕ) (cs : List Column) (vs : List Value) → SetFits c v n cs → row_fits cs vs ≡ true → row_fits cs (numbered (λ m (x : Value). cond (m == c) v x) n vs) ≡ true
with_value-fits c v n [] [] k h = h
with_value-fits c v n [] (x ∷ xs) k h = cc
with_value-fits c v n (d ∷ cs) [] k h = cc
with_value-fits c v n (d ∷ cs) (x ∷ xs) k h =
    let p = and_parts (of_kind d.kind x) (row_fits cs xs) h in
    and_from _ _ (go (eqb_tells n c) p.0) (with_value-fits c v (n + 1) cs xs k.1 p.1)
  where
    go : ((n == c) ≡ true) × (n ≡ c) ⊎ ((n == c) ≡ false) × (n ≢ c) → of_kind d.kind x ≡ true → of_kind d.kind (cond (n == c) v x) ≡ true
    go (inl e) t = ap (λ b. of_kind d.kind (cond b v x)) e.0 ∙ k.0 e.1
    go (inr e) t = ap (λ b. of_kind d.kind (cond b v x)) e.0 ∙ t

module _ (f : Placed → Placed) (kept : (p : Placed) → (f p).id ≡ p.id) where
  each-kept : (R : ℕ → Type 0) (rows : List Placed) → Each (λ (p : Placed). R p.id) rows → Each (λ (p : Placed). R p.id) (map f rows)
  each-kept R rows a = each-map (λ (p : Placed). R p.id) (λ (p : Placed). R p.id) f (λ p h. subst R (sym (kept p)) h) rows a

  rising-map : (rows : List Placed) → Rising rows → Rising (map f rows)
  rising-map [] r = tt
  rising-map (x ∷ xs) r = (each-kept (λ n. (f x).id < n) xs (each-weaker _ _ (λ (q : Placed) h. subst (λ n. n < q.id) (sym (kept x)) h) xs r.0), rising-map xs r.1)

  in-mapped : (p : Placed) (rows : List Placed) → In p (map f rows) → (q : Placed) × In q rows × (p.id ≡ q.id)
  in-mapped p [] h = absurd h
  in-mapped p (x ∷ xs) (inl e) = (x, inl refl, ap (λ (r : Placed). r.id) e ∙ kept x)
  in-mapped p (x ∷ xs) (inr h) = let k = in-mapped p xs h in (k.0, inr k.1, k.2)

with_set-state : (schema : Schema) (ts : List ℕ) (es : List JoinRow) (c : ColId) (v : Value) (s : State) → IsState schema s → SetFits c.column v 0 (columns_of schema c.table) → IsState schema (with_set ts es c v s)
with_set-state schema ts es c v s st fits =
    changed-state schema s _ 0 s.next st (λ u rows h. table u rows h (eqb_tells u c.table)) (λ u rows p h. inl (origin u rows p (u == c.table) h))
  where
    one : ℕ → Placed → Placed
    one u p = cond (takes_part ts es u p) (with_value c.column v p) p

    kept : (u : ℕ) (p : Placed) → (cond (takes_part ts es u p) (with_value c.column v p) p).id ≡ p.id
    kept u p = go (takes_part ts es u p)
      where
        go : (b : Bool) → (cond b (with_value c.column v p) p).id ≡ p.id
        go true = refl
        go false = refl

    fitting : (u : ℕ) → u ≡ c.table → (p : Placed) → row_fits (columns_of schema u) p.row.values ≡ true → row_fits (columns_of schema u) (cond (takes_part ts es u p) (with_value c.column v p) p).row.values ≡ true
    fitting u e p h = go (takes_part ts es u p)
      where
        go : (b : Bool) → row_fits (columns_of schema u) (cond b (with_value c.column v p) p).row.values ≡ true
        go true = with_value-fits c.column v 0 (columns_of schema u) p.row.values (subst (λ m. SetFits c.column v 0 (columns_of schema m)) (sym e) fits) h
        go false = h

    table : (u : ℕ) (rows : List Placed) → IsTable (columns_of schema u) s.next rows → ((u == c.table) ≡ true) × (u ≡ c.table) ⊎ ((u == c.table) ≡ false) × (u ≢ c.table) → IsTable (columns_of schema u) s.next (cond (u == c.table) (map (λ p. cond (takes_part ts es u p) (with_value c.column v p) p) rows) rows)
    table u rows h (inl e) =
        subst (λ b. IsTable (columns_of schema u) s.next (cond b (map (λ p. cond (takes_part ts es u p) (with_value c.column v p) p) rows) rows)) (sym e.0)
        (record { rising = rising-map _ (kept u) rows h.rising; below = each-kept _ (kept u) (λ n. n < s.next) rows h.below; fitting = each-map _ _ _ (fitting u e.1) rows h.fitting })
    table u rows h (inr e) = subst (λ b. IsTable (columns_of schema u) s.next (cond b (map (λ p. cond (takes_part ts es u p) (with_value c.column v p) p) rows) rows)) (sym e.0) h

    origin : (u : ℕ) (rows : List Placed) (p : Placed) (b : Bool) → In p (cond b (map (λ p. cond (takes_part ts es u p) (with_value c.column v p) p) rows) rows) → (q : Placed) × In q rows × (p.id ≡ q.id)
    origin u rows p true h = in-mapped _ (kept u) p rows h
    origin u rows p false h = (p, h, refl)

-- ---- statements and functions
effect-state : (schema : Schema) (g : Given) (t : Stmt) (s : State) → WritesKinds schema g t → IsState schema s → IsState schema (effect schema g t s)
effect-state schema g (Insert join values) s w st = with_rows-state schema g join.more values (tables_of join) s st w
effect-state schema g (Delete listed join test) s w st = without_rows-state schema (tables_of join) (met_rows g s join test.cases) listed s st
effect-state schema g (Set column x join test) s w st = with_set-state schema (tables_of join) (met_rows g s join test.cases) column (scalar_value g x) s st w

after_all-state : (schema : Schema) (g : Given) (ts : List Stmt) (s : State) → Each (WritesKinds schema g) ts → IsState schema s → IsState schema (after_all schema g ts s)
after_all-state schema g [] s w st = st
after_all-state schema g (t ∷ ts) s w st = after_all-state schema g ts (effect schema g t s) w.1 (effect-state schema g t s w.0 st)

-- a function that writes the columns' kinds leads from a state to a state
pub after-state : (schema : Schema) (g : Given) (b : Body) (s : State) → BodyWritesKinds schema g b → IsState schema s → IsState schema (after schema g b s)
after-state schema g (body.Update stmts) s w st = after_all-state schema g stmts s w st
after-state schema g (body.Query q) s w st = st

-- the empty state is one
pub empty-state : (schema : Schema) → IsState schema (empty_state schema)
empty-state schema = record {
  count = count schema.tables;
  each = λ t. subst (IsTable (columns_of schema t) 0) (sym (none t)) (no_table (columns_of schema t) 0);
  apart = λ t u p q h k e. absurd (subst (In p) (none t) h);
}
  where
    count : (ts : List Table) → length (map {B = List Placed} (λ (t : Table). []) ts) ≡ length ts
    count [] = refl
    count (t ∷ ts) = ap suc (count ts)

    none : (t : ℕ) → rows_of (empty_state schema) t ≡ []
    none t = get_or-map (λ (u : Table). []) schema.tables t (record { name = []; columns = [] })
