-- Changes made one after the other are the effect of a statement.
use Rattle.std.proofs.Common.{◌≡◌, ◌≢◌, ℕ, zero, suc, ◌+◌, ◌<◌, ◌^◌, ◌⊎◌, inl, inr, Bool, true, false, cond, not, List, [], ◌∷◌, ◌++◌, map, get_or, length, Option, Some, None, option_map, Result, Ok, Err, IfOk, OnOk, refl, sym, ap, ap₂, ◌∙◌, subst, arith}
use Rattle.std.specs.Prelude.{filter, ◌==◌, ◌||◌}
use Rattle.std.specs.List.{list_any}
use Rattle.std.proofs.lemmas.Bool.{eqb-true, eq-eqb, ne_eqb, or_parts, or_left, or_right, cases_eq}
use Rattle.mig_base.specs.Lists.{numbered}
use Rattle.mig_schema.specs.declared.tables.ColId.{ColId}
use Rattle.mig_schema.specs.declared.tables.Schema.{Schema}
use Rattle.mig_schema.specs.declared.programs.Assign.{Assign}
use Rattle.mig_schema.specs.declared.programs.Cmp.{Cmp}
use Rattle.mig_schema.specs.declared.programs.Join.{Join}
use Rattle.mig_schema.specs.declared.programs.Joined.{Joined}
use Rattle.mig_schema.specs.declared.programs.Stmt.{Stmt}
use Rattle.mig_schema.specs.declared.programs.Stmt.TheVariants.{Insert, Delete, Set}
use Rattle.mig_schema.specs.declared.values.Value.{Value}
use Rattle.mig_schema.specs.Joins.{tables_of, is_among}
use Rattle.mig_schema.specs.Typed.{stands_twice}
use Rattle.mig_meaning.specs.declared.states.Placed.{Placed}
use Rattle.mig_meaning.specs.declared.states.State.{State}
use Rattle.mig_meaning.specs.Conditions.{Given, cases_true, met_rows}
use Rattle.mig_meaning.specs.Effect.{new_values, with_rows, takes_part, without_rows, with_value, with_set, effect}
use Rattle.mig_meaning.specs.Lists.{AllDifferent, Each, In, has, product}
use Rattle.mig_meaning.specs.Rows.{JoinRow, join_rows, meets, row_in, rows_of}
use Rattle.mig_meaning.proofs.Within.{each-weaker, each-filter, each-flat_map, each-map}
use Rattle.mig_storage.specs.Changes.{changed_at, removed, written, has_id}
use Rattle.mig_storage.specs.Layout.{Layout}
use Rattle.mig_calls.specs.Fits.{AllJoinedFit, JoinFits}
use Rattle.mig_calls.specs.Making.{AreThere, removed_all, written_all, without_each}
use Rattle.mig_calls.specs.Rows.{rows_added}
use Rattle.mig_calls.proofs.ChangeLemmas.{same-bool}
use Rattle.mig_calls.proofs.ChoiceLemmas.{row-later}

eqb-sym : (a b : ℕ) → (a == b) ≡ (b == a)
eqb-sym a b = same-bool (a == b) (b == a) (λ h. eq-eqb b a (sym (eqb-true a b h))) (λ h. eq-eqb a b (sym (eqb-true b a h)))

-- ---- one change after another
numbered-after : {X : Type 0} (F G H : ℕ → X → X) → ((m : ℕ) (x : X) → F m (G m x) ≡ H m x) → (n : ℕ) (xs : List X) → numbered F n (numbered G n xs) ≡ numbered H n xs
numbered-after F G H h n [] = refl
numbered-after F G H h n (x ∷ xs) = ap₂ (λ y ys. y ∷ ys) (h n x) (numbered-after F G H h (n + 1) xs)

numbered-same : {X : Type 0} (F H : ℕ → X → X) → ((m : ℕ) (x : X) → F m x ≡ H m x) → (n : ℕ) (xs : List X) → numbered F n xs ≡ numbered H n xs
numbered-same F H h n [] = refl
numbered-same F H h n (x ∷ xs) = ap₂ (λ y ys. y ∷ ys) (h n x) (numbered-same F H h (n + 1) xs)

numbered-id : {X : Type 0} (F : ℕ → X → X) → ((m : ℕ) (x : X) → F m x ≡ x) → (n : ℕ) (xs : List X) → numbered F n xs ≡ xs
numbered-id F h n [] = refl
numbered-id F h n (x ∷ xs) = ap₂ (λ y ys. y ∷ ys) (h n x) (numbered-id F h (n + 1) xs)

with_tables : (next : ℕ) (a b : List (List Placed)) → a ≡ b → ◌≡◌ {A = State} (record { tables = a; next = next }) (record { tables = b; next = next })
with_tables next a b e = ap (λ (ts : List (List Placed)). record { tables = ts; next = next }) e

changed-after : (t : ℕ) (f g h : List Placed → List Placed) (s : State) → ((rows : List Placed) → f (g rows) ≡ h rows) → changed_at t f (changed_at t g s) ≡ changed_at t h s
changed-after t f g h s e = with_tables s.next _ _ (numbered-after _ _ _ (λ m rows. go (m == t) rows) 0 s.tables)
  where
    go : (b : Bool) (rows : List Placed) → cond b (f (cond b (g rows) rows)) (cond b (g rows) rows) ≡ cond b (h rows) rows
    go true rows = e rows
    go false rows = refl

changed-id : (t : ℕ) (f : List Placed → List Placed) (s : State) → ((rows : List Placed) → f rows ≡ rows) → changed_at t f s ≡ s
changed-id t f s e = with_tables s.next _ _ (numbered-id _ (λ m rows. go (m == t) rows) 0 s.tables)
  where
    go : (b : Bool) (rows : List Placed) → cond b (f rows) rows ≡ rows
    go true rows = e rows
    go false rows = refl

pub changed-same : (t : ℕ) (f h : List Placed → List Placed) (s : State) → ((rows : List Placed) → f rows ≡ h rows) → changed_at t f s ≡ changed_at t h s
changed-same t f h s e = with_tables s.next _ _ (numbered-same _ _ (λ m rows. ap (λ x. cond (m == t) x rows) (e rows)) 0 s.tables)

-- ---- rows taken out
pub filter-agree : (a b : Placed → Bool) → ((p : Placed) → a p ≡ b p) → (rows : List Placed) → filter a rows ≡ filter b rows
filter-agree a b h [] = refl
filter-agree a b h (p ∷ rows) = ap₂ (λ v ps. cond v (p ∷ ps) ps) (h p) (filter-agree a b h rows)

filter-twice : (a b d : Placed → Bool) → ((p : Placed) → d p ≡ cond (b p) (a p) false) → (rows : List Placed) → filter a (filter b rows) ≡ filter d rows
filter-twice a b d h [] = refl
filter-twice a b d h (p ∷ rows) = go (b p) (filter-twice a b d h rows) ∙ ap (λ v. cond v (p ∷ filter d rows) (filter d rows)) (sym (h p))
  where
    go : (v : Bool) → filter a (filter b rows) ≡ filter d rows → filter a (cond v (p ∷ filter b rows) (filter b rows)) ≡ cond (cond v (a p) false) (p ∷ filter d rows) (filter d rows)
    go true ih = ap (λ ps. cond (a p) (p ∷ ps) ps) ih
    go false ih = ih

filter-none-out : (rows : List Placed) → filter (λ (p : Placed). not (has [] p.id)) rows ≡ rows
filter-none-out [] = refl
filter-none-out (p ∷ rows) = ap (λ ps. p ∷ ps) (filter-none-out rows)

pub removed_all-is : (t : ℕ) (ids : List ℕ) (s : State) → removed_all t ids s ≡ changed_at t (filter (λ (p : Placed). not (has ids p.id))) s
removed_all-is t [] s = sym (changed-id t (filter (λ (p : Placed). not (has [] p.id))) s filter-none-out)
removed_all-is t (id ∷ ids) s =
    removed_all-is t ids (removed t id s)
    ∙ changed-after t (filter (λ (p : Placed). not (has ids p.id))) (filter (λ (p : Placed). not (p.id == id))) (filter (λ (p : Placed). not (has (id ∷ ids) p.id))) s
    (filter-twice (λ (p : Placed). not (has ids p.id)) (λ (p : Placed). not (p.id == id)) (λ (p : Placed). not (has (id ∷ ids) p.id)) (λ p. ap (λ b. not (b || has ids p.id)) (eqb-sym id p.id) ∙ go (p.id == id) (has ids p.id)))
  where
    go : (a b : Bool) → not (a || b) ≡ cond (not a) (not b) false
    go true b = refl
    go false b = refl

-- the rows that take part are taken out
pub removed-part : (t : ℕ) (ids : List ℕ) (ts : List ℕ) (es : List JoinRow) (s : State) → ((id : ℕ) → has ids id ≡ list_any (λ e. (row_in ts e t).id == id) es) → removed_all t ids s ≡ changed_at t (filter (λ (p : Placed). not (takes_part ts es t p))) s
removed-part t ids ts es s h = removed_all-is t ids s ∙ changed-same t _ _ s (filter-agree _ _ (λ p. ap not (h p.id)))

pub without_each-is : (ts : List ℕ) (es : List JoinRow) (listed : List ℕ) (s : State) → stands_twice listed ≡ false → without_each ts es listed s ≡ without_rows ts es listed s
without_each-is ts es [] s h = sym (with_tables s.next _ _ (numbered-id _ (λ m rows. refl) 0 s.tables))
without_each-is ts es (t ∷ listed) s h =
    let k = or_parts (is_among t listed) (stands_twice listed) h in
    without_each-is ts es listed (changed_at t (filter (λ (p : Placed). not (takes_part ts es t p))) s) k.1
    ∙ with_tables s.next _ _ (numbered-after _ _ _ (λ m rows. one m rows k.0 (cases_eq m t)) 0 s.tables)
  where
    one : (m : ℕ) (rows : List Placed) → is_among t listed ≡ false → (m ≡ t) ⊎ (m ≢ t)
        → cond (list_any (λ u. u == m) listed) (filter (λ (p : Placed). not (takes_part ts es m p)) (cond (m == t) (filter (λ (p : Placed). not (takes_part ts es t p)) rows) rows)) (cond (m == t) (filter (λ (p : Placed). not (takes_part ts es t p)) rows) rows)
        ≡ cond ((t == m) || list_any (λ u. u == m) listed) (filter (λ (p : Placed). not (takes_part ts es m p)) rows) rows
    one m rows n (inl e) =
        let other : list_any (λ u. u == m) listed ≡ false = ap (λ x. list_any (λ u. u == x) listed) e ∙ n in
        rw (other, eq-eqb m t e, eq-eqb t m (sym e)) (ap (λ x. filter (λ (p : Placed). not (takes_part ts es x p)) rows) (sym e))
    one m rows n (inr d) = rw (ne_eqb m t d, ne_eqb t m (λ q. d (sym q))) refl

-- ---- values written
map-twice : (f g h : Placed → Placed) → ((p : Placed) → f (g p) ≡ h p) → (rows : List Placed) → map f (map g rows) ≡ map h rows
map-twice f g h e [] = refl
map-twice f g h e (p ∷ rows) = ap₂ (λ q ps. q ∷ ps) (e p) (map-twice f g h e rows)

map-agree : (f h : Placed → Placed) → ((p : Placed) → f p ≡ h p) → (rows : List Placed) → map f rows ≡ map h rows
map-agree f h e [] = refl
map-agree f h e (p ∷ rows) = ap₂ (λ q ps. q ∷ ps) (e p) (map-agree f h e rows)

map-nothing : (rows : List Placed) → map (λ (p : Placed). p) rows ≡ rows
map-nothing [] = refl
map-nothing (p ∷ rows) = ap (λ ps. p ∷ ps) (map-nothing rows)

written_all-is : (c : ColId) (ids : List ℕ) (v : Value) (s : State) → AllDifferent ids → written_all c ids v s ≡ changed_at c.table (map (λ (p : Placed). cond (has ids p.id) (with_value c.column v p) p)) s
written_all-is c [] v s h = sym (changed-id c.table (map (λ (p : Placed). p)) s map-nothing)
written_all-is c (id ∷ ids) v s h =
    written_all-is c ids v (written c.table id c.column v s) h.1
    ∙ changed-after c.table (map (λ (p : Placed). cond (has ids p.id) (with_value c.column v p) p)) (map (λ (p : Placed). cond (p.id == id) (with_value c.column v p) p)) (map (λ (p : Placed). cond (has (id ∷ ids) p.id) (with_value c.column v p) p)) s
    (map-twice (λ (p : Placed). cond (has ids p.id) (with_value c.column v p) p) (λ (p : Placed). cond (p.id == id) (with_value c.column v p) p) (λ (p : Placed). cond (has (id ∷ ids) p.id) (with_value c.column v p) p) (λ p. one p (cases_eq p.id id)))
  where
    one : (p : Placed) → (p.id ≡ id) ⊎ (p.id ≢ id) → (λ (q : Placed). cond (has ids q.id) (with_value c.column v q) q) (cond (p.id == id) (with_value c.column v p) p) ≡ cond ((id == p.id) || has ids p.id) (with_value c.column v p) p
    one p (inl e) =
        let other : has ids p.id ≡ false = ap (has ids) e ∙ h.0 in
        rw (eq-eqb p.id id e, eq-eqb id p.id (sym e), other) refl
    one p (inr n) = rw (ne_eqb p.id id n, ne_eqb id p.id (λ q. n (sym q))) refl

pub written-part : (c : ColId) (ids : List ℕ) (v : Value) (ts : List ℕ) (es : List JoinRow) (s : State) → AllDifferent ids → ((id : ℕ) → has ids id ≡ list_any (λ e. (row_in ts e c.table).id == id) es) → written_all c ids v s ≡ with_set ts es c v s
written-part c ids v ts es s d h = written_all-is c ids v s d ∙ with_tables s.next _ _ (numbered-same _ _ (λ m rows. one m rows (cases_eq m c.table)) 0 s.tables)
  where
    one : (m : ℕ) (rows : List Placed) → (m ≡ c.table) ⊎ (m ≢ c.table)
        → cond (m == c.table) (map (λ (p : Placed). cond (has ids p.id) (with_value c.column v p) p) rows) rows ≡ cond (m == c.table) (map (λ (p : Placed). cond (takes_part ts es m p) (with_value c.column v p) p) rows) rows
    one m rows (inl e) = ap (λ x. cond (m == c.table) x rows) (map-agree _ _ (λ p. ap (λ b. cond b (with_value c.column v p) p) (h p.id ∙ ap (λ x. list_any (λ f. (row_in ts f x).id == p.id) es) (sym e))) rows)
    one m rows (inr n) = rw (ne_eqb m c.table n) refl

-- ---- the next id
with_rows-next : (schema : Schema) (g : Given) (ms : List Joined) (vs : List Assign) (ts : List ℕ) (s : State) → (with_rows schema g ms vs ts s).next ≡ s.next + length ts
with_rows-next schema g ms vs [] s = omega arith
with_rows-next schema g ms vs (t ∷ ts) s =
    let k = with_rows-next schema g ms vs ts (record { tables = numbered (λ n rows. cond (n == t) (rows ++ (record { id = s.next; row = record { values = new_values schema g ms vs t } } ∷ [])) rows) 0 s.tables; next = s.next + 1 }) in
    omega (arith, k)

pub effect-next : (schema : Schema) (g : Given) (stmt : Stmt) (s : State) → (effect schema g stmt s).next ≡ s.next + rows_added stmt
effect-next schema g (Insert join values) s = with_rows-next schema g join.more values (tables_of join) s
effect-next schema g (Delete listed join test) s = omega arith
effect-next schema g (Set column x join test) s = omega arith

-- ---- the rows that take part are there
each-self : (xs ys : List Placed) → ((p : Placed) → In p ys → In p xs) → Each (λ (p : Placed). In p xs) ys
each-self xs [] h = tt
each-self xs (y ∷ ys) h = (h y (inl refl), each-self xs ys (λ p k. h p (inr k)))

pub in-has : (p : Placed) (rows : List Placed) → In p rows → has_id p.id rows ≡ true
in-has p [] h = absurd h
in-has p (q ∷ rows) (inl e) = or_left (q.id == p.id) (has_id p.id rows) (eq-eqb q.id p.id (ap (λ (r : Placed). r.id) (sym e)))
in-has p (q ∷ rows) (inr h) = or_right (q.id == p.id) (has_id p.id rows) (in-has p rows h)

abbrev RowsThere : State → List ℕ → JoinRow → Type 0
RowsThere s ts e = (t : ℕ) → is_among t ts ≡ true → has_id (row_in ts e t).id (rows_of s t) ≡ true

product-there : (s : State) (ts : List ℕ) → Each (RowsThere s ts) (product (map (rows_of s) ts))
product-there s [] = ((λ t h. cc), tt)
product-there s (u ∷ ts) =
    each-flat_map (RowsThere s (u ∷ ts)) (λ (p : Placed). In p (rows_of s u)) (λ x. map (λ c. x ∷ c) (product (map (rows_of s) ts)))
    (λ x k. each-map (RowsThere s (u ∷ ts)) (RowsThere s ts) (λ c. x ∷ c) (λ c r t h. one x c k r t h (cases_eq u t)) (product (map (rows_of s) ts)) (product-there s ts))
    (rows_of s u) (each-self (rows_of s u) (rows_of s u) (λ p h. h))
  where
    one : (x : Placed) (c : JoinRow) → In x (rows_of s u) → RowsThere s ts c → (t : ℕ) → is_among t (u ∷ ts) ≡ true → (u ≡ t) ⊎ (u ≢ t) → has_id (row_in (u ∷ ts) (x ∷ c) t).id (rows_of s t) ≡ true
    one x c k r t h (inl e) = rw (eq-eqb u t e) (subst (λ m. has_id x.id (rows_of s m) ≡ true) e (in-has x (rows_of s u) k))
    one x c k r t h (inr n) = ap (λ (q : Placed). has_id q.id (rows_of s t)) (row-later u t ts x c n) ∙ r t (rw (ne_eqb u t n) at h)

met-there : (g : Given) (s : State) (join : Join) (cases : List (List Cmp)) → Each (RowsThere s (tables_of join)) (met_rows g s join cases)
met-there g s join cases =
    each-filter (RowsThere s (tables_of join)) (λ e. cases_true g (tables_of join) e cases) (join_rows s join)
    (each-filter (RowsThere s (tables_of join)) (meets (tables_of join) join.more) (product (map (rows_of s) (tables_of join))) (product-there s (tables_of join)))

pub met-are-there : (g : Given) (s : State) (join : Join) (cases : List (List Cmp)) (t : ℕ) → is_among t (tables_of join) ≡ true → AreThere (tables_of join) (met_rows g s join cases) s t
met-are-there g s join cases t h = each-weaker _ _ (λ e r. r t h) (met_rows g s join cases) (met-there g s join cases)

pub listed-are-there : (g : Given) (s : State) (join : Join) (cases : List (List Cmp)) (listed : List ℕ) → Each (λ t. is_among t (tables_of join) ≡ true) listed → Each (AreThere (tables_of join) (met_rows g s join cases) s) listed
listed-are-there g s join cases listed a = each-weaker _ _ (λ t h. met-are-there g s join cases t h) listed a

-- the ids of rows that are there
pub ids-there : (ts : List ℕ) (es : List JoinRow) (s : State) (t : ℕ) (ids : List ℕ) → ((id : ℕ) → has ids id ≡ list_any (λ e. (row_in ts e t).id == id) es) → AreThere ts es s t → Each (λ id. has_id id (rows_of s t) ≡ true) ids
ids-there ts es s t ids h there = go ids (λ id k. sym (h id) ∙ k)
  where
    among : (fs : List JoinRow) (id : ℕ) → Each (λ e. has_id (row_in ts e t).id (rows_of s t) ≡ true) fs → list_any (λ e. (row_in ts e t).id == id) fs ≡ true → has_id id (rows_of s t) ≡ true
    among [] id a k = cc
    among (e ∷ fs) id a k = step (cases_eq (row_in ts e t).id id) (λ q. among fs id a.1 q)
      where
        step : ((row_in ts e t).id ≡ id) ⊎ ((row_in ts e t).id ≢ id) → (list_any (λ f. (row_in ts f t).id == id) fs ≡ true → has_id id (rows_of s t) ≡ true) → has_id id (rows_of s t) ≡ true
        step (inl q) ih = ap (λ m. has_id m (rows_of s t)) (sym q) ∙ a.0
        step (inr q) ih = ih (rw (ne_eqb (row_in ts e t).id id q) at k)

    go : (js : List ℕ) → ((id : ℕ) → has js id ≡ true → list_any (λ e. (row_in ts e t).id == id) es ≡ true) → Each (λ id. has_id id (rows_of s t) ≡ true) js
    go [] k = tt
    go (j ∷ js) k = (among es j there (k j (or_left (j == j) (has js j) (eq-eqb j j refl))), go js (λ id q. k id (or_right (j == id) (has js id) q)))

-- ---- other tables stay
rows-other : (t u : ℕ) (f : List Placed → List Placed) (s : State) → u ≢ t → rows_of (changed_at t f s) u ≡ rows_of s u
rows-other t u f s n = go 0 s.tables u (omega arith)
  where
    go : (m : ℕ) (xs : List (List Placed)) (i : ℕ) → m + i ≡ u → get_or (numbered (λ n rows. cond (n == t) (f rows) rows) m xs) i [] ≡ get_or xs i []
    go m [] i e = refl
    go m (x ∷ xs) zero e = rw (ne_eqb m t (λ q. n (omega (arith, e, q)))) refl
    go m (x ∷ xs) (suc i) e = go (m + 1) xs i (omega (arith, e))

pub there-after : (told : Option State) (ts : List ℕ) (es : List JoinRow) (t : ℕ) (f : List Placed → List Placed) (listed : List ℕ) → is_among t listed ≡ false → ((s : State) → told ≡ Some s → Each (AreThere ts es s) listed) → (s : State) → option_map (changed_at t f) told ≡ Some s → Each (AreThere ts es s) listed
there-after None ts es t f listed new h s e = absurd (none e)
  where
    none : ◌≡◌ {A = Option State} None (Some s) → ⊥
    none q = cc
there-after (Some r) ts es t f listed new h s e =
    let same : changed_at t f r ≡ s = cc in
    subst (λ (u : State). Each (AreThere ts es u) listed) same (go listed new (h r refl))
  where
    go : (us : List ℕ) → is_among t us ≡ false → Each (AreThere ts es r) us → Each (AreThere ts es (changed_at t f r)) us
    go [] m a = tt
    go (u ∷ us) m a =
        let k = or_parts (u == t) (is_among t us) m in
        let other : u ≢ t = λ q. absurd (both (eq-eqb u t q) k.0) in
        (subst (λ rows. Each (λ e. has_id (row_in ts e u).id rows ≡ true) es) (sym (rows-other t u f r other)) a.0, go us k.1 a.1)
      where
        both : {b : Bool} → b ≡ true → b ≡ false → ⊥
        both x y = cc

-- ---- tables of a join
joined-within : (layout : Layout) (earlier : List ℕ) (ms : List Joined) (t : ℕ) → AllJoinedFit layout earlier ms → list_any (λ u. u == t) (map (λ (m : Joined). m.table) ms) ≡ true → t < length layout
joined-within layout earlier [] t f h = cc
joined-within layout earlier (m ∷ ms) t f h = go (cases_eq m.table t) (λ k. joined-within layout (earlier ++ m.table ∷ []) ms t f.1 k)
  where
    go : (m.table ≡ t) ⊎ (m.table ≢ t) → (list_any (λ u. u == t) (map (λ (n : Joined). n.table) ms) ≡ true → t < length layout) → t < length layout
    go (inl e) ih = let k = f.0.right.table in omega (arith, k, e, f.0.own_right)
    go (inr n) ih = ih (rw (ne_eqb m.table t n) at h)

pub among-within : (layout : Layout) (join : Join) (t : ℕ) → JoinFits layout join → is_among t (tables_of join) ≡ true → t < length layout
among-within layout join t f h = go (cases_eq join.first t)
  where
    go : (join.first ≡ t) ⊎ (join.first ≢ t) → t < length layout
    go (inl e) = let k = f.first in omega (arith, k, e)
    go (inr n) = joined-within layout (join.first ∷ []) join.more t f.more (rw (ne_eqb join.first t n) at h)

-- ---- answers
pub on-ok : {T E : Type 0} (answer : Result T E) (P Q : Type 0) → (P → Q) → OnOk answer P → OnOk answer Q
on-ok (Ok x) P Q f h = f h
on-ok (Err e) P Q f h = tt

pub if-ok : {T E : Type 0} (answer : Result T E) (P Q : T → Type 0) → ((x : T) → P x → Q x) → IfOk answer P → IfOk answer Q
if-ok (Ok x) P Q f h = f x h
if-ok (Err e) P Q f h = tt

pub option_map-at : (o : Option State) (f h : State → State) → ((s : State) → o ≡ Some s → f s ≡ h s) → option_map f o ≡ option_map h o
option_map-at None f h e = refl
option_map-at (Some s) f h e = ap Some (e s refl)

-- the room that is left after a statement
pub room-after : (schema : Schema) (g : Given) (stmt : Stmt) (told : Option State) (more : ℕ) → ((s : State) → told ≡ Some s → s.next + (rows_added stmt + more) < 2 ^ 63) → (s : State) → option_map (effect schema g stmt) told ≡ Some s → s.next + more < 2 ^ 63
room-after schema g stmt None more h s e = absurd (none e)
  where
    none : ◌≡◌ {A = Option State} None (Some s) → ⊥
    none q = cc
room-after schema g stmt (Some r) more h s e =
    let same : effect schema g stmt r ≡ s = cc in
    let next : s.next ≡ r.next + rows_added stmt = ap (λ (u : State). u.next) (sym same) ∙ effect-next schema g stmt r in
    omega (arith, next, h r refl)
