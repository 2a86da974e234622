-- The rows of a table at a stage, from those a stage before.
use Rattle.std.proofs.Common.{◌≡◌, ℕ, zero, suc, ◌+◌, ◌<◌, false, cond, List, [], ◌∷◌, ◌++◌, length, take, refl, sym, ap, ◌∙◌, arith, Some}
use Rattle.std.specs.Prelude.{◌==◌, slice_get, slice_index_or}
use Rattle.std.specs.List.{list_any}
use Rattle.std.proofs.lemmas.Bool.{or_parts, eqb-false, ne_eqb, eq-eqb, cond-false}
use Rattle.mig_schema.specs.declared.tables.Schema.{Schema}
use Rattle.mig_schema.specs.declared.faults.Side.{Side}
use Rattle.mig_schema.specs.declared.faults.Side.TheVariants.{Old, New}
use Rattle.mig_schema.specs.declared.programs.Joined.{Joined}
use Rattle.mig_schema.specs.declared.programs.Assign.{Assign}
use Rattle.mig_schema.specs.declared.programs.Stmt.{Stmt}
use Rattle.mig_schema.specs.declared.programs.Stmt.TheVariants.{Insert, Delete, Set}
use Rattle.mig_schema.specs.declared.values.Value.{Value}
use Rattle.mig_base.specs.Lists.{numbered}
use Rattle.mig_schema.specs.Joins.{tables_of, is_among}
use Rattle.mig_meaning.specs.declared.states.State.{State}
use Rattle.mig_meaning.specs.Rows.{rows_of}
use Rattle.mig_meaning.specs.Conditions.{Given}
use Rattle.mig_meaning.specs.Effect.{new_values, with_row, with_rows, effect, after_all}
use Rattle.mig_algebra.specs.Proper.{Sides, schema_of}
use Rattle.mig_obligations.specs.Settings.{Moment, stage_of}
use Rattle.mig_unfolding.specs.Stages.{statements_at}
use Rattle.mig_unfolding.specs.Unfolding.{touches}

-- ---- lists by number

numbered-at : {X : Type 0} (f : ℕ → List X → List X) (n : ℕ) (xs : List (List X)) (u : ℕ) → u < length xs → slice_index_or (numbered f n xs) u [] ≡ f (n + u) (slice_index_or xs u [])
numbered-at f n [] u h = absurd (omega arith)
numbered-at f n (x ∷ xs) zero h = let e : n ≡ n + zero = omega arith in ap (λ m. f m x) e
numbered-at f n (x ∷ xs) (suc u) h =
    let e : (n + 1) + u ≡ n + suc u = omega arith in
    numbered-at f (n + 1) xs u (omega (arith, h)) ∙ ap (λ m. f m (slice_index_or xs u [])) e

numbered-kept : {X : Type 0} (f : ℕ → List X → List X) (n : ℕ) (xs : List (List X)) (u : ℕ) → ((rows : List X) → f (n + u) rows ≡ rows) → slice_index_or (numbered f n xs) u [] ≡ slice_index_or xs u []
numbered-kept f n [] u h = refl
numbered-kept f n (x ∷ xs) zero h = let e : n ≡ n + zero = omega arith in ap (λ m. f m x) e ∙ h x
numbered-kept f n (x ∷ xs) (suc u) h =
    let e : (n + 1) + u ≡ n + suc u = omega arith in
    numbered-kept f (n + 1) xs u (λ rows. ap (λ m. f m rows) e ∙ h rows)

pub numbered-length : {X Y : Type 0} (f : ℕ → X → Y) (n : ℕ) (xs : List X) → length (numbered f n xs) ≡ length xs
numbered-length f n [] = refl
numbered-length f n (x ∷ xs) = ap suc (numbered-length f (n + 1) xs)

-- ---- statements

pub other-row : (s : State) (t u : ℕ) (vs : List Value) → (t == u) ≡ false → rows_of (with_row s u vs) t ≡ rows_of s t
other-row s t u vs h =
    numbered-kept (λ n rows. cond (n == u) (rows ++ (record { id = s.next; row = record { values = vs } } ∷ [])) rows) 0 s.tables t (λ rows.
    let e : 0 + t ≡ t = omega arith in
    ap (λ n. cond (n == u) (rows ++ (record { id = s.next; row = record { values = vs } } ∷ [])) rows) e
    ∙ ap (λ b. cond b (rows ++ (record { id = s.next; row = record { values = vs } } ∷ [])) rows) h)

pub other-way : (t u : ℕ) → (u == t) ≡ false → (t == u) ≡ false
other-way t u h = ne_eqb t u (λ e. eqb-false u t h (sym e))

pub other-rows : (schema : Schema) (g : Given) (ms : List Joined) (vs : List Assign) (ts : List ℕ) (s : State) (t : ℕ) → is_among t ts ≡ false → rows_of (with_rows schema g ms vs ts s) t ≡ rows_of s t
other-rows schema g ms vs [] s t h = refl
other-rows schema g ms vs (u ∷ us) s t h =
    let k = or_parts (u == t) (is_among t us) h in
    other-rows schema g ms vs us (with_row s u (new_values schema g ms vs u)) t k.1 ∙ other-row s t u (new_values schema g ms vs u) (other-way t u k.0)

-- a statement leaves the tables that it doesn't touch
pub untouched : (schema : Schema) (g : Given) (stmt : Stmt) (s : State) (t : ℕ) → touches stmt t ≡ false → rows_of (effect schema g stmt s) t ≡ rows_of s t
untouched schema g (Insert join values) s t h = other-rows schema g join.more values (tables_of join) s t h
untouched schema g (Delete tables join test) s t h =
    numbered-kept _ 0 s.tables t (λ rows.
    let e : 0 + t ≡ t = omega arith in
    cond-false _ _ rows (ap (λ n. list_any (λ u. u == n) tables) e ∙ h))
untouched schema g (Set column value join test) s t h =
    numbered-kept _ 0 s.tables t (λ rows.
    let e : 0 + t ≡ t = omega arith in
    cond-false _ _ rows (ap (λ n. n == column.table) e ∙ other-way t column.table h))

-- an insert puts its row at the end of the table
pub inserted-row : (s : State) (t : ℕ) (vs : List Value) → t < length s.tables → rows_of (with_row s t vs) t ≡ rows_of s t ++ (record { id = s.next; row = record { values = vs } } ∷ [])
inserted-row s t vs l =
    let e : 0 + t ≡ t = omega arith in
    numbered-at (λ n rows. cond (n == t) (rows ++ (record { id = s.next; row = record { values = vs } } ∷ [])) rows) 0 s.tables t l
    ∙ ap (λ n. cond (n == t) (rows_of s t ++ (record { id = s.next; row = record { values = vs } } ∷ [])) (rows_of s t)) e
    ∙ ap (λ b. cond b (rows_of s t ++ (record { id = s.next; row = record { values = vs } } ∷ [])) (rows_of s t)) (eq-eqb t t refl)

count-rows : (schema : Schema) (g : Given) (ms : List Joined) (vs : List Assign) (ts : List ℕ) (s : State) → length (with_rows schema g ms vs ts s).tables ≡ length s.tables
count-rows schema g ms vs [] s = refl
count-rows schema g ms vs (u ∷ us) s = count-rows schema g ms vs us (with_row s u (new_values schema g ms vs u)) ∙ numbered-length _ 0 s.tables

-- a statement keeps the number of tables
pub count-effect : (schema : Schema) (g : Given) (stmt : Stmt) (s : State) → length (effect schema g stmt s).tables ≡ length s.tables
count-effect schema g (Insert join values) s = count-rows schema g join.more values (tables_of join) s
count-effect schema g (Delete tables join test) s = numbered-length _ 0 s.tables
count-effect schema g (Set column value join test) s = numbered-length _ 0 s.tables

-- so do statements in turn
pub count-all : (schema : Schema) (g : Given) (stmts : List Stmt) (s : State) → length (after_all schema g stmts s).tables ≡ length s.tables
count-all schema g [] s = refl
count-all schema g (t ∷ ts) s = count-all schema g ts (effect schema g t s) ∙ count-effect schema g t s

-- ---- stages

-- one statement more
pub after-next : (schema : Schema) (g : Given) (stmts : List Stmt) (j : ℕ) (stmt : Stmt) (s : State) → slice_get stmts j ≡ Some stmt → after_all schema g (take (suc j) stmts) s ≡ effect schema g stmt (after_all schema g (take j stmts) s)
after-next schema g [] j stmt s h = cc
after-next schema g (t ∷ ts) zero stmt s h = let e : t ≡ stmt = cc in ap (λ x. effect schema g x s) e
after-next schema g (t ∷ ts) (suc j) stmt s h = after-next schema g ts j stmt (effect schema g t s) h

-- the state at a stage, from that a stage before
pub stage-next : (p : Sides) (m : Moment) (side : Side) (j : ℕ) (stmt : Stmt) → slice_get (statements_at p side) j ≡ Some stmt → stage_of p m side (suc j) ≡ effect (schema_of p side) m.given stmt (stage_of p m side j)
stage-next p m Old j stmt h = after-next p.source m.given _ j stmt m.old h
stage-next p m New j stmt h = after-next p.target m.given _ j stmt m.new h
