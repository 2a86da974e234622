-- A renaming that gives different keys to different keys commutes with every run.
use Rattle.std.proofs.Common.{◌≡◌, ◌≢◌, ℕ, ◌+◌, Bool, true, false, cond, not, ◌&&◌, ◌||◌, List, [], ◌∷◌, ◌++◌, map, take, drop, refl, sym, ap, ap₂, ◌∙◌, inl, inr, ◌⊎◌, Some}
use Rattle.std.specs.Prelude.{filter, ◌==◌, slice_index_or}
use Rattle.std.specs.List.{list_any}
use Rattle.std.proofs.Math.ListN.{get_or-map}
use Rattle.std.proofs.lemmas.List.{map-append}
use Rattle.std.proofs.lemmas.Bool.Decides.{eqb_tells}
use Rattle.std.proofs.lemmas.Bool.{eq-eqb, ne_eqb}
use Rattle.mig_schema.specs.declared.values.Value.{Value}
use Rattle.mig_schema.specs.declared.values.Value.TheVariants as value
use Rattle.mig_schema.specs.declared.programs.Op.{Op}
use Rattle.mig_schema.specs.declared.programs.Op.TheVariants.{Eq, Ne, Lt, Le, Gt, Ge}
use Rattle.mig_schema.specs.declared.tables.ColId.{ColId}
use Rattle.mig_schema.specs.declared.programs.Joined.{Joined}
use Rattle.mig_schema.specs.declared.programs.Join.{Join}
use Rattle.mig_schema.specs.declared.programs.Scalar.{Scalar}
use Rattle.mig_schema.specs.declared.programs.Scalar.TheVariants as scalar
use Rattle.mig_schema.specs.declared.programs.Item.{Item}
use Rattle.mig_schema.specs.declared.programs.Item.TheVariants as item
use Rattle.mig_schema.specs.declared.programs.Cmp.{Cmp}
use Rattle.mig_schema.specs.declared.programs.Assign.{Assign}
use Rattle.mig_schema.specs.declared.tables.Schema.{Schema}
use Rattle.mig_schema.specs.declared.programs.Stmt.{Stmt}
use Rattle.mig_schema.specs.declared.programs.Stmt.TheVariants.{Insert, Delete, Set}
use Rattle.mig_schema.specs.declared.programs.Query.{Query}
use Rattle.mig_schema.specs.declared.programs.Body.{Body}
use Rattle.mig_schema.specs.declared.programs.Body.TheVariants as body
use Rattle.mig_schema.specs.declared.programs.Program.{Program}
use Rattle.mig_meaning.specs.declared.states.Placed.{Placed}
use Rattle.mig_meaning.specs.declared.states.State.{State}
use Rattle.mig_meaning.specs.declared.calling.Invocation.{Invocation}
use Rattle.mig_schema.specs.Columns.{same_col, columns_of}
use Rattle.mig_schema.specs.Joins.{tables_of, leader}
use Rattle.mig_meaning.specs.Lists.{product, place}
use Rattle.mig_meaning.specs.Values.{no_value, value_eq, value_le, compares}
use Rattle.mig_meaning.specs.Rows.{no_row, rows_of, value_at, JoinRow, row_in, column_in, meets, join_rows}
use Rattle.mig_meaning.specs.Conditions.{Given, scalar_value, item_value, cmp_true, case_true, cases_true, met_rows}
use Rattle.mig_meaning.specs.Effect.{class_value, new_values, with_row, with_rows, takes_part, without_rows, with_value, with_set, effect, after_all, answer, after, reply}
use Rattle.mig_meaning.specs.Run.{function_at, Outcome, called, run}
use Rattle.mig_meaning.specs.Renaming.{renamed, renamed_row, renamed_state, renamed_rows}
use Rattle.mig_meaning.specs.Law.{renamed_call, renamed_reply, renamed_outcome}
use Rattle.mig_meaning.proofs.Maps.{map-lift, map-split, filter-map, any-map, product-map, numbered-lift, numbered-split, take-map, drop-map, cond-lift}

-- different keys stay different
abbrev pub Injective : (ℕ → ℕ) → Type 0
Injective f = (a b : ℕ) → f a ≡ f b → a ≡ b

abbrev pub renamed_given : (ℕ → ℕ) → Given → Given
renamed_given f g = record { args = map (renamed f) g.args; keys = map f g.keys }

abbrev with_tables : ℕ → List (List Placed) → State
with_tables n ts = record { tables = ts; next = n }

abbrev with_values : ℕ → List Value → Placed
with_values n vs = record { id = n; row = record { values = vs } }

eqb-renamed : (f : ℕ → ℕ) → Injective f → (a b : ℕ) → (f a == f b) ≡ (a == b)
eqb-renamed f inj a b = go (eqb_tells a b)
  where
    go : ((a == b) ≡ true) × (a ≡ b) ⊎ ((a == b) ≡ false) × (a ≢ b) → (f a == f b) ≡ (a == b)
    go (inl e) = eq-eqb (f a) (f b) (ap f e.1) ∙ sym e.0
    go (inr e) = ne_eqb (f a) (f b) (λ k. e.1 (inj a b k)) ∙ sym e.0

pub value_eq-renamed : (f : ℕ → ℕ) → Injective f → (a b : Value) → value_eq (renamed f a) (renamed f b) ≡ value_eq a b
value_eq-renamed f inj (value.Int i) (value.Int j) = refl
value_eq-renamed f inj (value.Int i) (value.Text t) = refl
value_eq-renamed f inj (value.Int i) (value.Key k) = refl
value_eq-renamed f inj (value.Text s) (value.Int j) = refl
value_eq-renamed f inj (value.Text s) (value.Text t) = refl
value_eq-renamed f inj (value.Text s) (value.Key k) = refl
value_eq-renamed f inj (value.Key k) (value.Int j) = refl
value_eq-renamed f inj (value.Key k) (value.Text t) = refl
value_eq-renamed f inj (value.Key k) (value.Key l) = eqb-renamed f inj k l

value_le-renamed : (f : ℕ → ℕ) (a b : Value) → value_le (renamed f a) (renamed f b) ≡ value_le a b
value_le-renamed f (value.Int i) (value.Int j) = refl
value_le-renamed f (value.Int i) (value.Text t) = refl
value_le-renamed f (value.Int i) (value.Key k) = refl
value_le-renamed f (value.Text s) b = refl
value_le-renamed f (value.Key k) b = refl

pub compares-renamed : (f : ℕ → ℕ) → Injective f → (op : Op) (a b : Value) → compares op (renamed f a) (renamed f b) ≡ compares op a b
compares-renamed f inj Eq a b = value_eq-renamed f inj a b
compares-renamed f inj Ne a b = ap not (value_eq-renamed f inj a b)
compares-renamed f inj Lt a b = ap not (value_le-renamed f b a)
compares-renamed f inj Le a b = value_le-renamed f a b
compares-renamed f inj Gt a b = ap not (value_le-renamed f a b)
compares-renamed f inj Ge a b = value_le-renamed f b a

-- ---- join rows
pub rows_of-renamed : (f : ℕ → ℕ) (s : State) (t : ℕ) → rows_of (renamed_state f s) t ≡ map (renamed_row f) (rows_of s t)
rows_of-renamed f s t = get_or-map (map (renamed_row f)) s.tables t []

row_in-renamed : (f : ℕ → ℕ) (ts : List ℕ) (e : JoinRow) (t : ℕ) → row_in ts (map (renamed_row f) e) t ≡ renamed_row f (row_in ts e t)
row_in-renamed f ts e t = get_or-map (renamed_row f) e (place ts t) no_row

pub value_at-renamed : (f : ℕ → ℕ) (p : Placed) (c : ℕ) → value_at (renamed_row f p) c ≡ renamed f (value_at p c)
value_at-renamed f p c = get_or-map (renamed f) p.row.values c no_value

pub column_in-renamed : (f : ℕ → ℕ) (ts : List ℕ) (e : JoinRow) (c : ColId) → column_in ts (map (renamed_row f) e) c ≡ renamed f (column_in ts e c)
column_in-renamed f ts e c = ap (λ p. value_at p c.column) (row_in-renamed f ts e c.table) ∙ value_at-renamed f (row_in ts e c.table) c.column

meets-renamed : (f : ℕ → ℕ) → Injective f → (ts : List ℕ) (ms : List Joined) (e : JoinRow) → meets ts ms (map (renamed_row f) e) ≡ meets ts ms e
meets-renamed f inj ts [] e = refl
meets-renamed f inj ts (m ∷ ms) e =
    ap₂ (λ b c. b && c)
    (ap₂ value_eq (column_in-renamed f ts e m.left) (column_in-renamed f ts e m.right) ∙ value_eq-renamed f inj (column_in ts e m.left) (column_in ts e m.right))
    (meets-renamed f inj ts ms e)

pub join_rows-renamed : (f : ℕ → ℕ) → Injective f → (s : State) (j : Join) → join_rows (renamed_state f s) j ≡ map (map (renamed_row f)) (join_rows s j)
join_rows-renamed f inj s j =
    ap (λ xss. filter (meets (tables_of j) j.more) (product xss)) (map-split (rows_of (renamed_state f s)) (map (renamed_row f)) (rows_of s) (rows_of-renamed f s) (tables_of j))
    ∙ ap (filter (meets (tables_of j) j.more)) (product-map (renamed_row f) (map (rows_of s) (tables_of j)))
    ∙ filter-map (meets (tables_of j) j.more) (map (renamed_row f)) (meets (tables_of j) j.more) (meets-renamed f inj (tables_of j) j.more) (product (map (rows_of s) (tables_of j)))

-- ---- conditions
pub scalar_value-renamed : (f : ℕ → ℕ) (g : Given) (x : Scalar) → scalar_value (renamed_given f g) x ≡ renamed f (scalar_value g x)
scalar_value-renamed f g (scalar.Param p) = get_or-map (renamed f) g.args p no_value
scalar_value-renamed f g (scalar.Int i) = refl
scalar_value-renamed f g (scalar.Text t) = refl
scalar_value-renamed f g (scalar.Fresh n) =
    ap (λ vs. slice_index_or vs n no_value) (map-lift value.Key f (renamed f) value.Key (λ k. refl) g.keys)
    ∙ get_or-map (renamed f) (map value.Key g.keys) n no_value

item_value-renamed : (f : ℕ → ℕ) (g : Given) (ts : List ℕ) (e : JoinRow) (x : Item) → item_value (renamed_given f g) ts (map (renamed_row f) e) x ≡ renamed f (item_value g ts e x)
item_value-renamed f g ts e (item.Col c) = column_in-renamed f ts e c
item_value-renamed f g ts e (item.Scalar x) = scalar_value-renamed f g x

cmp_true-renamed : (f : ℕ → ℕ) → Injective f → (g : Given) (ts : List ℕ) (e : JoinRow) (c : Cmp) → cmp_true (renamed_given f g) ts (map (renamed_row f) e) c ≡ cmp_true g ts e c
cmp_true-renamed f inj g ts e c =
    ap₂ (compares c.op) (item_value-renamed f g ts e c.left) (item_value-renamed f g ts e c.right)
    ∙ compares-renamed f inj c.op (item_value g ts e c.left) (item_value g ts e c.right)

case_true-renamed : (f : ℕ → ℕ) → Injective f → (g : Given) (ts : List ℕ) (e : JoinRow) (cs : List Cmp) → case_true (renamed_given f g) ts (map (renamed_row f) e) cs ≡ case_true g ts e cs
case_true-renamed f inj g ts e [] = refl
case_true-renamed f inj g ts e (c ∷ cs) = ap₂ (λ a b. a && b) (cmp_true-renamed f inj g ts e c) (case_true-renamed f inj g ts e cs)

cases_true-renamed : (f : ℕ → ℕ) → Injective f → (g : Given) (ts : List ℕ) (cs : List (List Cmp)) (e : JoinRow) → cases_true (renamed_given f g) ts (map (renamed_row f) e) cs ≡ cases_true g ts e cs
cases_true-renamed f inj g ts [] e = refl
cases_true-renamed f inj g ts (c ∷ cs) e = ap₂ (λ a b. a || b) (case_true-renamed f inj g ts e c) (cases_true-renamed f inj g ts cs e)

pub met_rows-renamed : (f : ℕ → ℕ) → Injective f → (g : Given) (s : State) (j : Join) (cs : List (List Cmp)) → met_rows (renamed_given f g) (renamed_state f s) j cs ≡ map (map (renamed_row f)) (met_rows g s j cs)
met_rows-renamed f inj g s j cs =
    ap (filter (λ e. cases_true (renamed_given f g) (tables_of j) e cs)) (join_rows-renamed f inj s j)
    ∙ filter-map (λ e. cases_true (renamed_given f g) (tables_of j) e cs) (map (renamed_row f)) (λ e. cases_true g (tables_of j) e cs) (cases_true-renamed f inj g (tables_of j) cs) (join_rows s j)

pub answer-renamed : (f : ℕ → ℕ) → Injective f → (g : Given) (q : Query) (s : State) → answer (renamed_given f g) q (renamed_state f s) ≡ renamed_rows f (answer g q s)
answer-renamed f inj g q s =
    ap (map (λ e. map (column_in (tables_of q.join) e) q.columns)) (met_rows-renamed f inj g s q.join q.cond.cases)
    ∙ map-lift _ (map (renamed_row f)) (map (renamed f)) (λ e. map (column_in (tables_of q.join) e) q.columns) (λ e. map-split _ (renamed f) (column_in (tables_of q.join) e) (column_in-renamed f (tables_of q.join) e) q.columns) (met_rows g s q.join q.cond.cases)

-- ---- insert
class_value-renamed : (f : ℕ → ℕ) (g : Given) (ms : List Joined) (vs : List Assign) (c : ColId) → class_value (renamed_given f g) ms vs c ≡ renamed f (class_value g ms vs c)
class_value-renamed f g ms [] c = refl
class_value-renamed f g ms (a ∷ vs) c =
    ap₂ (cond (same_col (leader ms a.column) (leader ms c))) (scalar_value-renamed f g a.value) (class_value-renamed f g ms vs c)
    ∙ cond-lift (renamed f) (same_col (leader ms a.column) (leader ms c)) (scalar_value g a.value) (class_value g ms vs c)

new_values-renamed : (schema : Schema) (f : ℕ → ℕ) (g : Given) (ms : List Joined) (vs : List Assign) (t : ℕ) → new_values schema (renamed_given f g) ms vs t ≡ map (renamed f) (new_values schema g ms vs t)
new_values-renamed schema f g ms vs t = numbered-split _ (renamed f) _ (λ n c. class_value-renamed f g ms vs (record { table = t; column = n })) 0 (columns_of schema t)

with_row-renamed : (f : ℕ → ℕ) (s : State) (t : ℕ) (vs : List Value) → with_row (renamed_state f s) t (map (renamed f) vs) ≡ renamed_state f (with_row s t vs)
with_row-renamed f s t vs = ap (with_tables (s.next + 1)) (numbered-lift _ (map (renamed_row f)) (map (renamed_row f)) _ (λ n rows. go rows (n == t)) 0 s.tables)
  where
    go : (rows : List Placed) (b : Bool) → cond b (map (renamed_row f) rows ++ (with_values s.next (map (renamed f) vs) ∷ [])) (map (renamed_row f) rows) ≡ map (renamed_row f) (cond b (rows ++ (with_values s.next vs ∷ [])) rows)
    go rows true = sym (map-append (renamed_row f) rows (with_values s.next vs ∷ []))
    go rows false = refl

with_rows-renamed : (schema : Schema) (f : ℕ → ℕ) (g : Given) (ms : List Joined) (vs : List Assign) (ts : List ℕ) (s : State) → with_rows schema (renamed_given f g) ms vs ts (renamed_state f s) ≡ renamed_state f (with_rows schema g ms vs ts s)
with_rows-renamed schema f g ms vs [] s = refl
with_rows-renamed schema f g ms vs (t ∷ ts) s =
    ap (with_rows schema (renamed_given f g) ms vs ts) (ap (with_row (renamed_state f s) t) (new_values-renamed schema f g ms vs t) ∙ with_row-renamed f s t (new_values schema g ms vs t))
    ∙ with_rows-renamed schema f g ms vs ts (with_row s t (new_values schema g ms vs t))

-- ---- delete and set
takes_part-renamed : (f : ℕ → ℕ) (ts : List ℕ) (es : List JoinRow) (t : ℕ) (p : Placed) → takes_part ts (map (map (renamed_row f)) es) t (renamed_row f p) ≡ takes_part ts es t p
takes_part-renamed f ts es t p = any-map _ (map (renamed_row f)) _ (λ e. ap (λ (r : Placed). r.id == p.id) (row_in-renamed f ts e t)) es

without_rows-renamed : (f : ℕ → ℕ) (ts : List ℕ) (es : List JoinRow) (listed : List ℕ) (s : State) → without_rows ts (map (map (renamed_row f)) es) listed (renamed_state f s) ≡ renamed_state f (without_rows ts es listed s)
without_rows-renamed f ts es listed s = ap (with_tables s.next) (numbered-lift _ (map (renamed_row f)) (map (renamed_row f)) _ (λ n rows. go n rows (list_any (λ t. t == n) listed)) 0 s.tables)
  where
    go : (n : ℕ) (rows : List Placed) (b : Bool) → cond b (filter (λ p. not (takes_part ts (map (map (renamed_row f)) es) n p)) (map (renamed_row f) rows)) (map (renamed_row f) rows) ≡ map (renamed_row f) (cond b (filter (λ p. not (takes_part ts es n p)) rows) rows)
    go n rows true = filter-map _ (renamed_row f) _ (λ p. ap not (takes_part-renamed f ts es n p)) rows
    go n rows false = refl

with_value-renamed : (f : ℕ → ℕ) (c : ℕ) (v : Value) (p : Placed) → with_value c (renamed f v) (renamed_row f p) ≡ renamed_row f (with_value c v p)
with_value-renamed f c v p = ap (with_values p.id) (numbered-lift _ (renamed f) (renamed f) _ (λ n x. cond-lift (renamed f) (n == c) v x) 0 p.row.values)

with_set-renamed : (f : ℕ → ℕ) (ts : List ℕ) (es : List JoinRow) (c : ColId) (v : Value) (s : State) → with_set ts (map (map (renamed_row f)) es) c (renamed f v) (renamed_state f s) ≡ renamed_state f (with_set ts es c v s)
with_set-renamed f ts es c v s = ap (with_tables s.next) (numbered-lift _ (map (renamed_row f)) (map (renamed_row f)) _ (λ n rows. go n rows (n == c.table)) 0 s.tables)
  where
    one : (n : ℕ) (p : Placed) → cond (takes_part ts (map (map (renamed_row f)) es) n (renamed_row f p)) (with_value c.column (renamed f v) (renamed_row f p)) (renamed_row f p) ≡ renamed_row f (cond (takes_part ts es n p) (with_value c.column v p) p)
    one n p =
        ap₂ (λ b q. cond b q (renamed_row f p)) (takes_part-renamed f ts es n p) (with_value-renamed f c.column v p)
        ∙ cond-lift (renamed_row f) (takes_part ts es n p) (with_value c.column v p) p

    go : (n : ℕ) (rows : List Placed) (b : Bool) → cond b (map (λ p. cond (takes_part ts (map (map (renamed_row f)) es) n p) (with_value c.column (renamed f v) p) p) (map (renamed_row f) rows)) (map (renamed_row f) rows) ≡ map (renamed_row f) (cond b (map (λ p. cond (takes_part ts es n p) (with_value c.column v p) p) rows) rows)
    go n rows true = map-lift _ (renamed_row f) (renamed_row f) _ (one n) rows
    go n rows false = refl

-- ---- functions and runs
pub effect-renamed : (schema : Schema) (f : ℕ → ℕ) → Injective f → (g : Given) (t : Stmt) (s : State) → effect schema (renamed_given f g) t (renamed_state f s) ≡ renamed_state f (effect schema g t s)
effect-renamed schema f inj g (Insert join values) s = with_rows-renamed schema f g join.more values (tables_of join) s
effect-renamed schema f inj g (Delete listed join test) s =
    ap (λ es. without_rows (tables_of join) es listed (renamed_state f s)) (met_rows-renamed f inj g s join test.cases)
    ∙ without_rows-renamed f (tables_of join) (met_rows g s join test.cases) listed s
effect-renamed schema f inj g (Set column x join test) s =
    ap₂ (λ es v. with_set (tables_of join) es column v (renamed_state f s)) (met_rows-renamed f inj g s join test.cases) (scalar_value-renamed f g x)
    ∙ with_set-renamed f (tables_of join) (met_rows g s join test.cases) column (scalar_value g x) s

after_all-renamed : (schema : Schema) (f : ℕ → ℕ) → Injective f → (g : Given) (ts : List Stmt) (s : State) → after_all schema (renamed_given f g) ts (renamed_state f s) ≡ renamed_state f (after_all schema g ts s)
after_all-renamed schema f inj g [] s = refl
after_all-renamed schema f inj g (t ∷ ts) s =
    ap (after_all schema (renamed_given f g) ts) (effect-renamed schema f inj g t s) ∙ after_all-renamed schema f inj g ts (effect schema g t s)

after-renamed : (schema : Schema) (f : ℕ → ℕ) → Injective f → (g : Given) (b : Body) (s : State) → after schema (renamed_given f g) b (renamed_state f s) ≡ renamed_state f (after schema g b s)
after-renamed schema f inj g (body.Update stmts) s = after_all-renamed schema f inj g stmts s
after-renamed schema f inj g (body.Query q) s = refl

reply-renamed : (f : ℕ → ℕ) → Injective f → (g : Given) (b : Body) (s : State) → reply (renamed_given f g) b (renamed_state f s) ≡ renamed_reply f (reply g b s)
reply-renamed f inj g (body.Update stmts) s = refl
reply-renamed f inj g (body.Query q) s = ap Some (answer-renamed f inj g q s)

called-renamed : (schema : Schema) (p : Program) (f : ℕ → ℕ) → Injective f → (i : Invocation) (ks : List ℕ) (s : State) → called schema p (renamed_call f i) (map f ks) (renamed_state f s) ≡ renamed_outcome f (called schema p i ks s)
called-renamed schema p f inj i ks s =
    ap₂ (λ t r. record { state = t; reply = r }) (after-renamed schema f inj (record { args = i.args.values; keys = ks }) (function_at p i.function).body s) (reply-renamed f inj (record { args = i.args.values; keys = ks }) (function_at p i.function).body s)

-- the renaming law, for a renaming that gives different keys to any two different keys
pub run-renamed : (schema : Schema) (p : Program) (f : ℕ → ℕ) → Injective f → (is : List Invocation) (ks : List ℕ) (s : State) → run schema p (renamed_state f s) (map (renamed_call f) is) (map f ks) ≡ map (renamed_outcome f) (run schema p s is ks)
run-renamed schema p f inj [] ks s = refl
run-renamed schema p f inj (i ∷ is) ks s =
    ap₂ (λ (o : Outcome) l. o ∷ run schema p o.state (map (renamed_call f) is) l) (ap (λ l. called schema p (renamed_call f i) l (renamed_state f s)) (take-map f 16 ks) ∙ called-renamed schema p f inj i (take 16 ks) s) (drop-map f 16 ks)
    ∙ ap (λ os. renamed_outcome f (called schema p i (take 16 ks) s) ∷ os) (run-renamed schema p f inj is (drop 16 ks) (called schema p i (take 16 ks) s).state)
