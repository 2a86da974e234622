-- Rows of a joined table that lead back to rows of an earlier one.
use Rattle.std.specs.Prelude.{◌≡◌, ℕ, Bool, true, false, List, [], ◌∷◌, map, filter}
use Rattle.std.specs.List.{list_any}
use Rattle.mig_schema.specs.declared.programs.Joined.{Joined}
use Rattle.mig_schema.specs.declared.programs.Join.{Join}
use Rattle.mig_schema.specs.declared.programs.Cmp.{Cmp}
use Rattle.mig_schema.specs.declared.values.Value.{Value}
use Rattle.mig_schema.specs.Joins.{tables_of}
use Rattle.mig_meaning.specs.declared.states.Placed.{Placed}
use Rattle.mig_meaning.specs.declared.states.State.{State}
use Rattle.mig_meaning.specs.Conditions.{Given, cases_true}
use Rattle.mig_meaning.specs.Lists.{In, product}
use Rattle.mig_meaning.specs.Rows.{JoinRow, meets, row_in, rows_of, value_at}
use Rattle.mig_meaning.specs.Values.{value_eq}

-- whether a value is equal to one of these
abbrev pub is_one_of : List Value → Value → Bool
is_one_of vs v = list_any (value_eq v) vs

-- no two are equal
abbrev pub AreUnequal : List Value → Type 0
AreUnequal [] = Unit {0}
AreUnequal (v ∷ vs) = (is_one_of vs v ≡ false) × AreUnequal vs

-- whether a row has one of these values in column n
abbrev pub has_one_of : List Value → ℕ → Placed → Bool
has_one_of vs n p = is_one_of vs (value_at p n)

-- whether a row of the earlier table meets the equality with one of these rows of the joined table
abbrev pub is_met_by : Joined → List Placed → Placed → Bool
is_met_by m rows p = list_any (λ (q : Placed). value_eq (value_at p m.left.column) (value_at q m.right.column)) rows

-- rows of table t, in order, among which is that of each join row which meets the condition
pub record IsCoverAt (g : Given) (s : State) (join : Join) (cases : List (List Cmp)) (t : ℕ) (rows : List Placed) : Type 0 where
  pub test : Placed → Bool
  pub part : rows ≡ filter test (rows_of s t)
  pub covers : (e : JoinRow) → In e (product (map (rows_of s) (tables_of join))) → meets (tables_of join) join.more e ≡ true → cases_true g (tables_of join) e cases ≡ true → test (row_in (tables_of join) e t) ≡ true
