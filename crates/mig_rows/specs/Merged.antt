-- Two variables of a term become one, since their table's column is unique. The arguments: the variable that stays, the one that goes, and the invariant.
use Rattle.std.specs.Prelude.{ℕ, ◌+◌, nat_lt, Bool, false, cond, ◌&&◌, List, [], ◌∷◌, length, slice_get, Option, Some, None}
use Rattle.std.specs.Option.{option_and_then}
use Rattle.mig_schema.specs.declared.faults.Side.{Side}
use Rattle.mig_schema.specs.declared.tables.ColId.{ColId}
use Rattle.mig_meaning.specs.declared.relating.Invariant.{Invariant}
use Rattle.mig_meaning.specs.declared.relating.Invariant.TheVariants.{Views, Unique, Apart, Within}
use Rattle.mig_algebra.specs.declared.atoms.Var.{Var}
use Rattle.mig_algebra.specs.declared.atoms.Atom.TheVariants.{Col}
use Rattle.mig_algebra.specs.declared.terms.Term.{Term}
use Rattle.mig_classes.specs.Classes.{one_class}
use Rattle.mig_listing.specs.Chosen.{chosen}
use Rattle.mig_rows.specs.Ranging.{are_rows, is_start}
use Rattle.mig_rows.specs.Writing.{term_into}

-- whether x is less than y, both range over a column's table, and the columns of both are in one class of the term
abbrev pub are_one : Side → ColId → (x y : ℕ) → Term → Bool
are_one side c x y t = nat_lt x y && (are_rows side c c x y t.vars && one_class t.lits (Col x c.column) (Col y c.column))

-- the term with x written for y, where a column of both is unique
abbrev pub merged_at : Side → ColId → (x y : ℕ) → Term → Option (List Term)
merged_at side c x y t = cond (are_one side c x y t) (Some (term_into y x t ∷ [])) None

-- what an invariant makes of a term
abbrev pub merged_by : (x y : ℕ) → Term → Invariant → Option (List Term)
merged_by x y t (Unique side c) = merged_at side c x y t
merged_by x y t (Views source target) = None
merged_by x y t (Apart side c d) = None
merged_by x y t (Within side c d) = None

-- the rule
abbrev pub merged : List Invariant → List ℕ → Term → Option (List Term)
merged invs (x ∷ (y ∷ (k ∷ []))) t = option_and_then (merged_by x y t) (slice_get invs k)
merged invs args t = None

-- ---- what is tried

-- whether an invariant is there, and says that a column of the table of x and of y is unique
abbrev pub tells : List Var → (x y : ℕ) → Option Invariant → Bool
tells vars x y None = false
tells vars x y (Some (Unique side c)) = are_rows side c c x y vars
tells vars x y (Some (Views source target)) = false
tells vars x y (Some (Apart side c d)) = false
tells vars x y (Some (Within side c d)) = false

-- whether variables may stand first and second, and an invariant third
abbrev pub may_merge : List Invariant → List Var → List ℕ → Bool
may_merge invs vars (x ∷ []) = is_start (slice_get vars x)
may_merge invs vars (x ∷ (y ∷ [])) = nat_lt x y && is_start (slice_get vars y)
may_merge invs vars (x ∷ (y ∷ (k ∷ []))) = tells vars x y (slice_get invs k)
may_merge invs vars args = false

-- each two variables of rows from before the call, the lesser first, with each invariant by which a column of their table is unique
abbrev pub merge_args : List Invariant → Term → List (List ℕ)
merge_args invs t = chosen (may_merge invs t.vars) (length invs + length t.vars) 3 []
