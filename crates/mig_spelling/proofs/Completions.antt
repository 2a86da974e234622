-- The grammar spells a completion of a job whose functions it spells.
use Rattle.std.proofs.Common.{◌≡◌, ℕ, ◌<◌, ◌≤◌, Bool, true, List, [], ◌∷◌, map, length, refl, sym, ap, ◌∙◌, inl, inr, arith}
use Rattle.std.specs.Prelude.{nat_lt, ◌==◌, ◌&&◌, ◌||◌}
use Rattle.std.specs.List.{list_all, AllZip}
use Rattle.std.proofs.lemmas.Bool.{and_from, and_parts, lt-ltb}
use Rattle.mig_listing.specs.Listing.{IsIn}
use Rattle.mig_schema.specs.declared.tables.ColId.{ColId}
use Rattle.mig_schema.specs.declared.tables.Schema.{Schema}
use Rattle.mig_schema.specs.declared.programs.Assign.{Assign}
use Rattle.mig_schema.specs.declared.programs.Body.{Body}
use Rattle.mig_schema.specs.declared.programs.Body.TheVariants.{Update, Query}
use Rattle.mig_schema.specs.declared.programs.Cmp.{Cmp}
use Rattle.mig_schema.specs.declared.programs.Cond.{Cond}
use Rattle.mig_schema.specs.declared.programs.Function.{Function}
use Rattle.mig_schema.specs.declared.programs.Item.{Item}
use Rattle.mig_schema.specs.declared.programs.Item.TheVariants as item
use Rattle.mig_schema.specs.declared.programs.Program.{Program}
use Rattle.mig_schema.specs.declared.programs.Query.{Query as AQuery}
use Rattle.mig_schema.specs.declared.programs.Scalar.{Scalar}
use Rattle.mig_schema.specs.declared.programs.Stmt.{Stmt}
use Rattle.mig_schema.specs.declared.programs.Stmt.TheVariants.{Insert, Delete, Set}
use Rattle.mig_schema.specs.declared.jobs.Job.{Job}
use Rattle.mig_schema.specs.Columns.{kind_of}
use Rattle.mig_schema.specs.Plain.{is_no_where}
use Rattle.mig_sketch.specs.Moved.{item_by, cmp_by, condition_by}
use Rattle.mig_sketch.specs.Completed.{IsKeptValue, KeepsCond, KeepsStmt, KeepsQuery, KeepsBody, KeepsFunction, IsCompletion}
use Rattle.mig_spelling.specs.Spellable.{has_items, is_name, scalar_spelled, item_spelled, cond_spelled, stmt_spelled, body_spelled, param_spelled, function_spelled}

-- a list with something in it has an item
some-items : {A : Type 0} (xs : List A) → 0 < length xs → has_items xs ≡ true
some-items [] h = absurd (omega (arith, h))
some-items (x ∷ xs) h = refl

-- and the other way round, also for lists of one length
items-some : {A : Type 0} (xs : List A) → has_items xs ≡ true → 0 < length xs
items-some [] h = absurd cc
items-some (x ∷ xs) h = omega arith

-- ---- conditions, with other columns

item-moved : (f : ColId → ColId) (x : Item) → item_spelled (item_by f x) ≡ item_spelled x
item-moved f (item.Col c) = refl
item-moved f (item.Scalar x) = refl

abbrev sides_spelled : Cmp → Bool
sides_spelled c = item_spelled c.left && item_spelled c.right

sides-moved : (f : ColId → ColId) (c : Cmp) → sides_spelled (cmp_by f c) ≡ sides_spelled c
sides-moved f c = ap (λ b. b && item_spelled (item_by f c.right)) (item-moved f c.left) ∙ ap (λ b. item_spelled c.left && b) (item-moved f c.right)

case-moved : (f : ColId → ColId) (cs : List Cmp) → list_all sides_spelled (map (cmp_by f) cs) ≡ list_all sides_spelled cs
case-moved f [] = refl
case-moved f (c ∷ cs) = ap (λ b. b && list_all sides_spelled (map (cmp_by f) cs)) (sides-moved f c) ∙ ap (λ b. sides_spelled c && b) (case-moved f cs)

abbrev case_spelled : List Cmp → Bool
case_spelled case = has_items case && list_all sides_spelled case

one-moved : (f : ColId → ColId) (cs : List Cmp) → case_spelled (map (cmp_by f) cs) ≡ case_spelled cs
one-moved f [] = refl
one-moved f (c ∷ cs) = case-moved f (c ∷ cs)

cases-moved : (f : ColId → ColId) (cases : List (List Cmp)) → list_all case_spelled (map (λ case. map (cmp_by f) case) cases) ≡ list_all case_spelled cases
cases-moved f [] = refl
cases-moved f (c ∷ cases) = ap (λ b. b && list_all case_spelled (map (λ case. map (cmp_by f) case) cases)) (one-moved f c) ∙ ap (λ b. case_spelled c && b) (cases-moved f cases)

map-long : {A B : Type 0} (f : A → B) (xs : List A) → length (map f xs) ≡ length xs
map-long f [] = refl
map-long f (x ∷ xs) = let e = map-long f xs in omega (arith, e)

empty-moved : (f : ColId → ColId) (cases : List (List Cmp)) → list_all (λ (case : List Cmp). length case == 0) (map (λ case. map (cmp_by f) case) cases) ≡ list_all (λ (case : List Cmp). length case == 0) cases
empty-moved f [] = refl
empty-moved f (c ∷ cases) = ap (λ n. (n == 0) && list_all (λ (case : List Cmp). length case == 0) (map (λ case. map (cmp_by f) case) cases)) (map-long (cmp_by f) c) ∙ ap (λ b. (length c == 0) && b) (empty-moved f cases)

items-moved : {A B : Type 0} (f : A → B) (xs : List A) → has_items (map f xs) ≡ has_items xs
items-moved f [] = refl
items-moved f (x ∷ xs) = refl

-- a condition is spelled as the one is that it comes from
cond-moved : (f : ColId → ColId) (test : Cond) → cond_spelled (condition_by f test) ≡ cond_spelled test
cond-moved f test =
    let long = map-long (λ (case : List Cmp). map (cmp_by f) case) test.cases in
    ap (λ n. ((n == 1) && list_all (λ (case : List Cmp). length case == 0) (condition_by f test).cases) || (has_items (condition_by f test).cases && list_all case_spelled (condition_by f test).cases)) long
    ∙ (ap (λ b. ((length test.cases == 1) && b) || (has_items (condition_by f test).cases && list_all case_spelled (condition_by f test).cases)) (empty-moved f test.cases)
    ∙ (ap (λ b. is_no_where test || (b && list_all case_spelled (condition_by f test).cases)) (items-moved (λ (case : List Cmp). map (cmp_by f) case) test.cases)
    ∙ ap (λ b. is_no_where test || (has_items test.cases && b)) (cases-moved f test.cases)))

cond-kept : (old new : Cond) → KeepsCond old new → cond_spelled old ≡ true → cond_spelled new ≡ true
cond-kept old new k h = ap cond_spelled k.moved ∙ (cond-moved k.by old ∙ h)

-- ---- values

in-spelled : (x : Scalar) (values : List Assign) → list_all (λ (a : Assign). scalar_spelled a.value) values ≡ true → IsIn x (map (λ (a : Assign). a.value) values) → scalar_spelled x ≡ true
in-spelled x [] h i = absurd i
in-spelled x (a ∷ values) h (inl e) = ap scalar_spelled e ∙ (and_parts (scalar_spelled a.value) (list_all (λ (b : Assign). scalar_spelled b.value) values) h).0
in-spelled x (a ∷ values) h (inr i) = in-spelled x values (and_parts (scalar_spelled a.value) (list_all (λ (b : Assign). scalar_spelled b.value) values) h).1 i

below-16 : (n : ℕ) → n ≤ 15 → nat_lt n 16 ≡ true
below-16 n h = lt-ltb n 16 (omega (arith, h))

value-kept : (values : List Assign) (x : Scalar) → list_all (λ (a : Assign). scalar_spelled a.value) values ≡ true → IsKeptValue values x → scalar_spelled x ≡ true
value-kept values x h (inl i) = in-spelled x values h i
value-kept values x h (inr k) = ap scalar_spelled k.2 ∙ below-16 k.0 k.1

values-kept : (values given : List Assign) → list_all (λ (a : Assign). scalar_spelled a.value) values ≡ true → ((a : Assign) → IsIn a given → IsKeptValue values a.value) → list_all (λ (a : Assign). scalar_spelled a.value) given ≡ true
values-kept values [] h k = refl
values-kept values (a ∷ given) h k = and_from (scalar_spelled a.value) (list_all (λ (b : Assign). scalar_spelled b.value) given) (value-kept values a.value h (k a (inl refl))) (values-kept values given h (λ b i. k b (inr i)))

-- ---- statements, queries and functions

stmt-kept : (old new : Stmt) → KeepsStmt old new → stmt_spelled old ≡ true → stmt_spelled new ≡ true
stmt-kept (Insert join values) (Insert tree given) k h = and_from (has_items given) (list_all (λ (a : Assign). scalar_spelled a.value) given) (some-items given k.0) (values-kept values given (and_parts (has_items values) (list_all (λ (a : Assign). scalar_spelled a.value) values) h).1 k.1)
stmt-kept (Insert join values) (Delete tables tree test) k h = absurd k
stmt-kept (Insert join values) (Set column x tree test) k h = absurd k
stmt-kept (Delete tables join test) (Insert tree given) k h = absurd k
stmt-kept (Delete tables join test) (Delete from tree moved) k h = and_from (has_items from) (cond_spelled moved) (some-items from k.0) (cond-kept test moved k.1 (and_parts (has_items tables) (cond_spelled test) h).1)
stmt-kept (Delete tables join test) (Set column x tree moved) k h = absurd k
stmt-kept (Set column x join test) (Insert tree given) k h = absurd k
stmt-kept (Set column x join test) (Delete from tree moved) k h = absurd k
stmt-kept (Set column x join test) (Set d y tree moved) k h = let both = and_parts (scalar_spelled x) (cond_spelled test) h in and_from (scalar_spelled y) (cond_spelled moved) (ap scalar_spelled k.0 ∙ both.0) (cond-kept test moved k.1 both.1)

stmts-kept : (old new : List Stmt) → AllZip KeepsStmt old new → list_all stmt_spelled old ≡ true → list_all stmt_spelled new ≡ true
stmts-kept [] [] k h = refl
stmts-kept [] (t ∷ new) k h = absurd k
stmts-kept (s ∷ old) [] k h = absurd k
stmts-kept (s ∷ old) (t ∷ new) k h = let both = and_parts (stmt_spelled s) (list_all stmt_spelled old) h in and_from (stmt_spelled t) (list_all stmt_spelled new) (stmt-kept s t k.0 both.0) (stmts-kept old new k.1 both.1)

zip-items : (old new : List Stmt) → AllZip KeepsStmt old new → has_items old ≡ true → has_items new ≡ true
zip-items [] [] k h = h
zip-items [] (t ∷ new) k h = absurd k
zip-items (s ∷ old) [] k h = absurd k
zip-items (s ∷ old) (t ∷ new) k h = refl

query-kept : (source target : Schema) (old new : AQuery) → KeepsQuery source target old new → body_spelled (Query old) ≡ true → body_spelled (Query new) ≡ true
query-kept source target old new k h =
    let both = and_parts (has_items old.columns) (cond_spelled old.cond) h in
    let long : length new.columns ≡ length old.columns = sym (map-long (kind_of target) new.columns) ∙ (ap length k.kinds ∙ map-long (kind_of source) old.columns) in
    let some = items-some old.columns both.0 in
    and_from (has_items new.columns) (cond_spelled new.cond) (some-items new.columns (omega (arith, long, some))) (cond-kept old.cond new.cond k.test both.1)

body-kept : (source target : Schema) (old new : Body) → KeepsBody source target old new → body_spelled old ≡ true → body_spelled new ≡ true
body-kept source target (Update old) (Update new) k h = let both = and_parts (has_items old) (list_all stmt_spelled old) h in and_from (has_items new) (list_all stmt_spelled new) (zip-items old new k both.0) (stmts-kept old new k both.1)
body-kept source target (Update old) (Query new) k h = absurd k
body-kept source target (Query old) (Update new) k h = absurd k
body-kept source target (Query old) (Query new) k h = query-kept source target old new k h

function-kept : (source target : Schema) (f g : Function) → KeepsFunction source target f g → function_spelled f ≡ true → function_spelled g ≡ true
function-kept source target f g k h =
    let names = and_parts (is_name f.name) (list_all param_spelled f.params && body_spelled f.body) h in
    let rest = and_parts (list_all param_spelled f.params) (body_spelled f.body) names.1 in
    and_from (is_name g.name) (list_all param_spelled g.params && body_spelled g.body) (ap is_name k.name ∙ names.0)
    (and_from (list_all param_spelled g.params) (body_spelled g.body) (ap (list_all param_spelled) k.params ∙ rest.0) (body-kept source target f.body g.body k.body rest.1))

functions-kept : (source target : Schema) (fs gs : List Function) → AllZip (KeepsFunction source target) fs gs → list_all function_spelled fs ≡ true → list_all function_spelled gs ≡ true
functions-kept source target [] [] k h = refl
functions-kept source target [] (g ∷ gs) k h = absurd k
functions-kept source target (f ∷ fs) [] k h = absurd k
functions-kept source target (f ∷ fs) (g ∷ gs) k h = let both = and_parts (function_spelled f) (list_all function_spelled fs) h in and_from (function_spelled g) (list_all function_spelled gs) (function-kept source target f g k.0 both.0) (functions-kept source target fs gs k.1 both.1)

-- so it is with completions
pub completion-spelled : (job : Job) (program : Program) → list_all function_spelled job.program.functions ≡ true → IsCompletion job program → list_all function_spelled program.functions ≡ true
completion-spelled job program h c = functions-kept job.source job.target job.program.functions program.functions c.keeps h
