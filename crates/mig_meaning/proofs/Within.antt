-- The values after a call are values of the state before it, arguments, keys of the call, ints or texts.
use Rattle.std.proofs.Common.{ℕ, zero, suc, ◌+◌, Bool, true, false, cond, List, [], ◌∷◌, ◌++◌, map, Option, Some, None, get_or, pos}
use Rattle.std.specs.Prelude.{filter, flat_map, ◌==◌}
use Rattle.std.specs.List.{list_any}
use Rattle.mig_schema.specs.declared.values.Value.{Value}
use Rattle.mig_schema.specs.declared.values.Value.TheVariants as value
use Rattle.mig_schema.specs.declared.tables.ColId.{ColId}
use Rattle.mig_schema.specs.declared.programs.Joined.{Joined}
use Rattle.mig_schema.specs.declared.programs.Join.{Join}
use Rattle.mig_schema.specs.declared.programs.Scalar.{Scalar}
use Rattle.mig_schema.specs.declared.programs.Scalar.TheVariants as scalar
use Rattle.mig_schema.specs.declared.programs.Assign.{Assign}
use Rattle.mig_schema.specs.declared.tables.Table.{Table}
use Rattle.mig_schema.specs.declared.tables.Schema.{Schema}
use Rattle.mig_schema.specs.declared.programs.Stmt.{Stmt}
use Rattle.mig_schema.specs.declared.programs.Stmt.TheVariants.{Insert, Delete, Set}
use Rattle.mig_schema.specs.declared.programs.Query.{Query}
use Rattle.mig_schema.specs.declared.programs.Body.{Body}
use Rattle.mig_schema.specs.declared.programs.Body.TheVariants as body
use Rattle.mig_meaning.specs.declared.states.Placed.{Placed}
use Rattle.mig_meaning.specs.declared.states.State.{State}
use Rattle.mig_base.specs.Lists.{numbered}
use Rattle.mig_schema.specs.Columns.{columns_of}
use Rattle.mig_schema.specs.Joins.{tables_of}
use Rattle.mig_meaning.specs.Lists.{product, place, Each}
use Rattle.mig_meaning.specs.Values.{no_value}
use Rattle.mig_meaning.specs.Rows.{no_row, empty_state, rows_of, JoinRow, row_in, column_in, meets, join_rows}
use Rattle.mig_meaning.specs.Conditions.{Given, scalar_value, met_rows}
use Rattle.mig_meaning.specs.Effect.{class_value, new_values, with_row, with_rows, takes_part, with_value, with_set, effect, after_all, answer, after}
use Rattle.mig_meaning.specs.Keys.{EachIn, EachValue}

pub each-of : {X : Type 0} (P : X → Type 0) → ((x : X) → P x) → (xs : List X) → Each P xs
each-of P h [] = tt
each-of P h (x ∷ xs) = (h x, each-of P h xs)

pub each-weaker : {X : Type 0} (P Q : X → Type 0) → ((x : X) → P x → Q x) → (xs : List X) → Each P xs → Each Q xs
each-weaker P Q h [] a = tt
each-weaker P Q h (x ∷ xs) a = (h x a.0, each-weaker P Q h xs a.1)

pub each-append : {X : Type 0} (P : X → Type 0) (xs ys : List X) → Each P xs → Each P ys → Each P (xs ++ ys)
each-append P [] ys a b = b
each-append P (x ∷ xs) ys a b = (a.0, each-append P xs ys a.1 b)

pub each-map : {X Y : Type 0} (P : Y → Type 0) (Q : X → Type 0) (f : X → Y) → ((x : X) → Q x → P (f x)) → (xs : List X) → Each Q xs → Each P (map f xs)
each-map P Q f h [] a = tt
each-map P Q f h (x ∷ xs) a = (h x a.0, each-map P Q f h xs a.1)

pub cond-keeps : {X : Type 0} (P : X → Type 0) (b : Bool) (x y : X) → P x → P y → P (cond b x y)
cond-keeps P true x y p q = p
cond-keeps P false x y p q = q

pub each-filter : {X : Type 0} (P : X → Type 0) (q : X → Bool) (xs : List X) → Each P xs → Each P (filter q xs)
each-filter P q [] a = tt
each-filter P q (x ∷ xs) a = cond-keeps (Each P) (q x) (x ∷ filter q xs) (filter q xs) (a.0, each-filter P q xs a.1) (each-filter P q xs a.1)

pub each-flat_map : {X Y : Type 0} (P : Y → Type 0) (Q : X → Type 0) (f : X → List Y) → ((x : X) → Q x → Each P (f x)) → (xs : List X) → Each Q xs → Each P (flat_map f xs)
each-flat_map P Q f h [] a = tt
each-flat_map P Q f h (x ∷ xs) a = each-append P (f x) (flat_map f xs) (h x a.0) (each-flat_map P Q f h xs a.1)

pub each-get : {X : Type 0} (P : X → Type 0) (xs : List X) (n : ℕ) (d : X) → Each P xs → P d → P (get_or xs n d)
each-get P [] n d a b = b
each-get P (x ∷ xs) zero d a b = a.0
each-get P (x ∷ xs) (suc n) d a b = each-get P xs n d a.1 b

pub each-numbered : {X Y : Type 0} (P : Y → Type 0) (Q : X → Type 0) (f : ℕ → X → Y) → ((n : ℕ) (x : X) → Q x → P (f n x)) → (n : ℕ) (xs : List X) → Each Q xs → Each P (numbered f n xs)
each-numbered P Q f h n [] a = tt
each-numbered P Q f h n (x ∷ xs) a = (h n x a.0, each-numbered P Q f h (n + 1) xs a.1)

pub each-product : {X : Type 0} (P : X → Type 0) (xss : List (List X)) → Each (Each P) xss → Each (Each P) (product xss)
each-product P [] a = (tt, tt)
each-product P (xs ∷ more) a = each-flat_map (Each P) P (λ x. map (λ c. x ∷ c) (product more)) (λ x p. each-map (Each P) (Each P) (λ c. x ∷ c) (λ c q. (p, q)) (product more) (each-product P more a.1)) xs a.0

-- a property that all ints and texts have
pub record IsPlain (P : Value → Type 0) : Type 0 where
  pub ints : (i : _) → P (value.Int i)
  pub texts : (t : List ℕ) → P (value.Text t)

-- all that a call is given has the property
pub record IsGiven (P : Value → Type 0) (g : Given) : Type 0 where
  pub args : Each P g.args
  pub keys : Each P (map value.Key g.keys)

pub empty-keeps : (P : Value → Type 0) (schema : Schema) → EachValue P (empty_state schema)
empty-keeps P schema = each-map (Each (EachIn P)) (λ (t : Table). Unit {0}) (λ (t : Table). []) (λ t u. tt) schema.tables (each-of _ (λ t. tt) schema.tables)

scalar-keeps : (P : Value → Type 0) → IsPlain P → (g : Given) → IsGiven P g → (x : Scalar) → P (scalar_value g x)
scalar-keeps P pl g gi (scalar.Param p) = each-get P g.args p no_value gi.args (pl.ints (pos 0))
scalar-keeps P pl g gi (scalar.Int i) = pl.ints i
scalar-keeps P pl g gi (scalar.Text t) = pl.texts t
scalar-keeps P pl g gi (scalar.Fresh n) = each-get P (map value.Key g.keys) n no_value gi.keys (pl.ints (pos 0))

class-keeps : (P : Value → Type 0) → IsPlain P → (g : Given) → IsGiven P g → (ms : List Joined) (vs : List Assign) (c : ColId) → P (class_value g ms vs c)
class-keeps P pl g gi ms [] c = pl.ints (pos 0)
class-keeps P pl g gi ms (a ∷ vs) c = cond-keeps P _ (scalar_value g a.value) (class_value g ms vs c) (scalar-keeps P pl g gi a.value) (class-keeps P pl g gi ms vs c)

with_row-keeps : (P : Value → Type 0) (s : State) (t : ℕ) (vs : List Value) → EachValue P s → Each P vs → EachValue P (with_row s t vs)
with_row-keeps P s t vs a b = each-numbered (Each (EachIn P)) (Each (EachIn P)) _ (λ n rows h. cond-keeps (Each (EachIn P)) (n == t) _ rows (each-append (EachIn P) rows _ h (b, tt)) h) 0 s.tables a

with_rows-keeps : (P : Value → Type 0) → IsPlain P → (schema : Schema) (g : Given) → IsGiven P g → (ms : List Joined) (vs : List Assign) (ts : List ℕ) (s : State) → EachValue P s → EachValue P (with_rows schema g ms vs ts s)
with_rows-keeps P pl schema g gi ms vs [] s a = a
with_rows-keeps P pl schema g gi ms vs (t ∷ ts) s a =
    with_rows-keeps P pl schema g gi ms vs ts (with_row s t (new_values schema g ms vs t)) (with_row-keeps P s t (new_values schema g ms vs t) a
    (each-numbered P (λ c. Unit {0}) _ (λ n c u. class-keeps P pl g gi ms vs (record { table = t; column = n })) 0 (columns_of schema t) (each-of _ (λ c. tt) (columns_of schema t))))

with_set-keeps : (P : Value → Type 0) (ts : List ℕ) (es : List JoinRow) (c : ColId) (v : Value) (s : State) → P v → EachValue P s → EachValue P (with_set ts es c v s)
with_set-keeps P ts es c v s pv a =
    each-numbered (Each (EachIn P)) (Each (EachIn P)) _ (λ n rows h. cond-keeps (Each (EachIn P)) (n == c.table) _ rows (each-map (EachIn P) (EachIn P) _ (one n) rows h) h) 0 s.tables a
  where
    one : (n : ℕ) (p : Placed) → EachIn P p → EachIn P (cond (takes_part ts es n p) (with_value c.column v p) p)
    one n p h = cond-keeps (EachIn P) (takes_part ts es n p) (with_value c.column v p) p (each-numbered P P _ (λ k x q. cond-keeps P (k == c.column) v x pv q) 0 p.row.values h) h

pub effect-keeps : (P : Value → Type 0) → IsPlain P → (schema : Schema) (g : Given) → IsGiven P g → (t : Stmt) (s : State) → EachValue P s → EachValue P (effect schema g t s)
effect-keeps P pl schema g gi (Insert join values) s a = with_rows-keeps P pl schema g gi join.more values (tables_of join) s a
effect-keeps P pl schema g gi (Delete listed join test) s a =
    each-numbered (Each (EachIn P)) (Each (EachIn P)) _ (λ n rows h. cond-keeps (Each (EachIn P)) (list_any (λ t. t == n) listed) _ rows (each-filter (EachIn P) _ rows h) h) 0 s.tables a
effect-keeps P pl schema g gi (Set column x join test) s a = with_set-keeps P (tables_of join) (met_rows g s join test.cases) column (scalar_value g x) s (scalar-keeps P pl g gi x) a

after_all-keeps : (P : Value → Type 0) → IsPlain P → (schema : Schema) (g : Given) → IsGiven P g → (ts : List Stmt) (s : State) → EachValue P s → EachValue P (after_all schema g ts s)
after_all-keeps P pl schema g gi [] s a = a
after_all-keeps P pl schema g gi (t ∷ ts) s a = after_all-keeps P pl schema g gi ts (effect schema g t s) (effect-keeps P pl schema g gi t s a)

pub after-keeps : (P : Value → Type 0) → IsPlain P → (schema : Schema) (g : Given) → IsGiven P g → (b : Body) (s : State) → EachValue P s → EachValue P (after schema g b s)
after-keeps P pl schema g gi (body.Update stmts) s a = after_all-keeps P pl schema g gi stmts s a
after-keeps P pl schema g gi (body.Query q) s a = a

-- ---- answers
pub join_rows-keep : (P : Value → Type 0) (s : State) (j : Join) → EachValue P s → Each (Each (EachIn P)) (join_rows s j)
join_rows-keep P s j a =
    each-filter (Each (EachIn P)) (meets (tables_of j) j.more) (product (map (rows_of s) (tables_of j)))
    (each-product (EachIn P) (map (rows_of s) (tables_of j))
    (each-map (Each (EachIn P)) (λ t. Unit {0}) (rows_of s) (λ t u. each-get (Each (EachIn P)) s.tables t [] a tt) (tables_of j) (each-of _ (λ t. tt) (tables_of j))))

pub column_in-keeps : (P : Value → Type 0) → IsPlain P → (ts : List ℕ) (e : JoinRow) (c : ColId) → Each (EachIn P) e → P (column_in ts e c)
column_in-keeps P pl ts e c a = each-get P (row_in ts e c.table).row.values c.column no_value (each-get (EachIn P) e (place ts c.table) no_row a tt) (pl.ints (pos 0))

-- each value of an answer
abbrev pub EachOf : (Value → Type 0) → Option (List (List Value)) → Type 0
EachOf P None = Unit {0}
EachOf P (Some rows) = Each (Each P) rows

pub answer-keeps : (P : Value → Type 0) → IsPlain P → (g : Given) (q : Query) (s : State) → EachValue P s → Each (Each P) (answer g q s)
answer-keeps P pl g q s a =
    each-map (Each P) (Each (EachIn P)) _ (λ e h. each-map P (λ c. Unit {0}) (column_in (tables_of q.join) e) (λ c u. column_in-keeps P pl (tables_of q.join) e c h) q.columns (each-of _ (λ c. tt) q.columns)) (met_rows g s q.join q.cond.cases)
    (each-filter (Each (EachIn P)) _ (join_rows s q.join) (join_rows-keep P s q.join a))
