-- The labels that a function uses, and new ones.
use Rattle.std.specs.Prelude.{ℕ, ◌+◌, ◌*◌, ◌==◌, nat_le, Bool, false, not, ◌||◌, cond, List, filter, slice_get, Option, None}
use Rattle.std.specs.List.{list_any, range_with_len}
use Rattle.mig_schema.specs.declared.programs.Assign.{Assign}
use Rattle.mig_schema.specs.declared.programs.Body.{Body}
use Rattle.mig_schema.specs.declared.programs.Body.TheVariants as body
use Rattle.mig_schema.specs.declared.programs.Cmp.{Cmp}
use Rattle.mig_schema.specs.declared.programs.Cond.{Cond}
use Rattle.mig_schema.specs.declared.programs.Item.{Item}
use Rattle.mig_schema.specs.declared.programs.Item.TheVariants as item
use Rattle.mig_schema.specs.declared.programs.Scalar.{Scalar}
use Rattle.mig_schema.specs.declared.programs.Scalar.TheVariants as scalar
use Rattle.mig_schema.specs.declared.programs.Stmt.{Stmt}
use Rattle.mig_schema.specs.declared.programs.Stmt.TheVariants.{Insert, Delete, Set}

-- whether a scalar is the fresh key of label n
abbrev pub is_label : ℕ → Scalar → Bool
is_label n (scalar.Fresh m) = m == n
is_label n (scalar.Param p) = false
is_label n (scalar.Int i) = false
is_label n (scalar.Text t) = false

abbrev pub item_uses : ℕ → Item → Bool
item_uses n (item.Col c) = false
item_uses n (item.Scalar x) = is_label n x

abbrev pub case_uses : ℕ → List Cmp → Bool
case_uses n cmps = list_any (λ (x : Cmp). item_uses n x.left || item_uses n x.right) cmps

abbrev pub condition_uses : ℕ → Cond → Bool
condition_uses n test = list_any (case_uses n) test.cases

abbrev pub values_use : ℕ → List Assign → Bool
values_use n values = list_any (λ (a : Assign). is_label n a.value) values

abbrev pub stmt_uses : ℕ → Stmt → Bool
stmt_uses n (Insert join values) = values_use n values
stmt_uses n (Delete tables join test) = condition_uses n test
stmt_uses n (Set column x join test) = is_label n x || condition_uses n test

-- whether label n stands anywhere in a body
abbrev pub body_uses : ℕ → Body → Bool
body_uses n (body.Update stmts) = list_any (stmt_uses n) stmts
body_uses n (body.Query q) = condition_uses n q.cond

-- the labels from 0 to 15 that do not
abbrev pub free_labels : Body → List ℕ
free_labels b = filter (λ n. not (body_uses n b)) (range_with_len 0 16)

-- the label of new class i of statement s, if there is one
abbrev pub new_label : (free : List ℕ) → (s i : ℕ) → Option ℕ
new_label free s i = cond (nat_le i 3) (slice_get free (4 * s + i)) None
