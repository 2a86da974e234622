-- A term goes that equates two columns that are apart. The arguments: two of the term's variables, and the invariant.
use Rattle.std.specs.Prelude.{ℕ, ◌+◌, Bool, false, cond, ◌&&◌, List, [], ◌∷◌, length, slice_get, Option, Some, None}
use Rattle.std.specs.Option.{option_and_then}
use Rattle.mig_schema.specs.declared.faults.Side.{Side}
use Rattle.mig_schema.specs.declared.tables.ColId.{ColId}
use Rattle.mig_meaning.specs.declared.relating.Invariant.{Invariant}
use Rattle.mig_meaning.specs.declared.relating.Invariant.TheVariants.{Views, Unique, Apart, Within}
use Rattle.mig_algebra.specs.declared.atoms.Var.{Var}
use Rattle.mig_algebra.specs.declared.atoms.Atom.TheVariants.{Col}
use Rattle.mig_algebra.specs.declared.terms.Term.{Term}
use Rattle.mig_classes.specs.Classes.{one_class}
use Rattle.mig_listing.specs.Chosen.{chosen}
use Rattle.mig_rows.specs.Ranging.{are_rows, is_start}

-- whether x and y range over the tables of two columns, which are in one class of the term
abbrev pub equates : Side → (c d : ColId) → (x y : ℕ) → Term → Bool
equates side c d x y t = are_rows side c d x y t.vars && one_class t.lits (Col x c.column) (Col y d.column)

-- no terms, where the columns are apart
abbrev pub parted_by : (x y : ℕ) → Term → Invariant → Option (List Term)
parted_by x y t (Apart side c d) = cond (equates side c d x y t) (Some []) None
parted_by x y t (Views source target) = None
parted_by x y t (Unique side c) = None
parted_by x y t (Within side c d) = None

-- the rule
abbrev pub parted : List Invariant → List ℕ → Term → Option (List Term)
parted invs (x ∷ (y ∷ (k ∷ []))) t = option_and_then (parted_by x y t) (slice_get invs k)
parted invs args t = None

-- ---- what is tried

-- whether an invariant is there, and says that columns of the tables of x and of y are apart
abbrev pub parts : List Var → (x y : ℕ) → Option Invariant → Bool
parts vars x y None = false
parts vars x y (Some (Apart side c d)) = are_rows side c d x y vars
parts vars x y (Some (Views source target)) = false
parts vars x y (Some (Unique side c)) = false
parts vars x y (Some (Within side c d)) = false

-- whether variables may stand first and second, and an invariant third
abbrev pub may_part : List Invariant → List Var → List ℕ → Bool
may_part invs vars (x ∷ []) = is_start (slice_get vars x)
may_part invs vars (x ∷ (y ∷ [])) = is_start (slice_get vars y)
may_part invs vars (x ∷ (y ∷ (k ∷ []))) = parts vars x y (slice_get invs k)
may_part invs vars args = false

-- each two variables of rows from before the call, with each invariant that parts columns of their tables
abbrev pub apart_args : List Invariant → Term → List (List ℕ)
apart_args invs t = chosen (may_part invs t.vars) (length invs + length t.vars) 3 []
