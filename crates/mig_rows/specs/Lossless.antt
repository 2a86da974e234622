-- A variable of a term goes that one equality alone names, since exactly one row meets it. The arguments: the variable, the one whose column it is tied to, and the invariants by which that column is within the variable's one, and this one is unique.
use Rattle.std.specs.Prelude.{ℕ, ◌+◌, ◌==◌, Bool, true, false, cond, not, ◌&&◌, List, [], ◌∷◌, length, slice_get, Option, Some, None}
use Rattle.std.specs.List.{list_all}
use Rattle.std.specs.Option.{option_and_then}
use Rattle.mig_schema.specs.Columns.{same_col}
use Rattle.mig_schema.specs.declared.faults.Side.{Side}
use Rattle.mig_schema.specs.declared.tables.ColId.{ColId}
use Rattle.mig_meaning.specs.declared.relating.Invariant.{Invariant}
use Rattle.mig_meaning.specs.declared.relating.Invariant.TheVariants.{Views, Unique, Apart, Within}
use Rattle.mig_algebra.specs.declared.atoms.Var.{Var}
use Rattle.mig_algebra.specs.declared.terms.Term.{Term}
use Rattle.mig_algebra.specs.Proper.{same_side}
use Rattle.mig_listing.specs.Chosen.{chosen}
use Rattle.mig_replacing.specs.Places.{others}
use Rattle.mig_steps.specs.Variables.{leaving_out}
use Rattle.mig_rows.specs.Naming.{first_naming, names_once}
use Rattle.mig_rows.specs.Ranging.{are_rows, is_start}
use Rattle.mig_rows.specs.Writing.{avoids, lits_left, head_into}

-- a term without variable i and the literal that names it
abbrev pub term_left : ℕ → Term → Term
term_left i t = record {
  vars = leaving_out i t.vars;
  lits = lits_left i (others t.lits (first_naming i t.lits));
  head = head_into i i t.head;
}

-- whether z and y are two variables, and one equality alone names z, and ties its column m to column n of y
abbrev pub is_partner : (z y m n : ℕ) → Term → Bool
is_partner z y m n t = not (y == z) && (list_all (avoids z) t.head && names_once [] z m y n t.lits)

-- the term without z, where the left column is within the right one, which tells rows apart
abbrev pub lossless_at : Side → (c d : ColId) → (z y : ℕ) → Term → Option (List Term)
lossless_at side c d z y t = cond (are_rows side d c z y t.vars && is_partner z y d.column c.column t) (Some (term_left z t ∷ [])) None

-- whether an invariant says that a column of a side is unique
abbrev pub is_unique : Side → ColId → Invariant → Bool
is_unique side d (Unique side' e) = same_side side' side && same_col e d
is_unique side d (Views source target) = false
is_unique side d (Apart side' e f) = false
is_unique side d (Within side' e f) = false

-- what two invariants make of a term
abbrev pub lossless_by : (z y : ℕ) → Term → Invariant → Invariant → Option (List Term)
lossless_by z y t (Within side c d) other = cond (is_unique side d other) (lossless_at side c d z y t) None
lossless_by z y t (Views source target) other = None
lossless_by z y t (Unique side c) other = None
lossless_by z y t (Apart side c d) other = None

-- the rule
abbrev pub lossless : List Invariant → List ℕ → Term → Option (List Term)
lossless invs (z ∷ (y ∷ (k ∷ (m ∷ [])))) t = option_and_then (λ inv. option_and_then (lossless_by z y t inv) (slice_get invs m)) (slice_get invs k)
lossless invs args t = None

-- ---- what is tried

-- whether an invariant is there, and says that a column of y's table is within one of z's
abbrev pub ties : (z y : ℕ) → List Var → Option Invariant → Bool
ties z y vars None = false
ties z y vars (Some (Within side c d)) = are_rows side d c z y vars
ties z y vars (Some (Views source target)) = false
ties z y vars (Some (Unique side c)) = false
ties z y vars (Some (Apart side c d)) = false

-- whether an invariant is there, and says that a column is unique
abbrev pub tells_rows : Option Invariant → Bool
tells_rows None = false
tells_rows (Some (Unique side c)) = true
tells_rows (Some (Views source target)) = false
tells_rows (Some (Apart side c d)) = false
tells_rows (Some (Within side c d)) = false

-- whether variables may stand first and second, and invariants third and fourth
abbrev pub may_lose : List Invariant → List Var → List ℕ → Bool
may_lose invs vars (z ∷ []) = is_start (slice_get vars z)
may_lose invs vars (z ∷ (y ∷ [])) = is_start (slice_get vars y)
may_lose invs vars (z ∷ (y ∷ (k ∷ []))) = ties z y vars (slice_get invs k)
may_lose invs vars (z ∷ (y ∷ (k ∷ (m ∷ [])))) = tells_rows (slice_get invs m)
may_lose invs vars args = false

-- each two variables of rows from before the call, with each invariant by which a column of the second's table is within one of the first's, and each by which a column is unique
abbrev pub lossless_args : List Invariant → Term → List (List ℕ)
lossless_args invs t = chosen (may_lose invs t.vars) (length invs + length t.vars) 4 []
