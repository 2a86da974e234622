-- Which variables range over the rows of a table before the call.
use Rattle.std.specs.Prelude.{ℕ, ◌==◌, ◌-◌, nat_lt, Bool, false, not, ◌&&◌, List, length, slice_get, Option, Some, None}
use Rattle.mig_schema.specs.declared.faults.Side.{Side}
use Rattle.mig_schema.specs.declared.tables.ColId.{ColId}
use Rattle.mig_algebra.specs.declared.atoms.Var.{Var}
use Rattle.mig_algebra.specs.Proper.{same_side}

-- whether a variable ranges over a table of a side before the call
abbrev pub ranges_over : Side → (table : ℕ) → Var → Bool
ranges_over side t v = same_side v.side side && (v.table == t && v.stage == 0)

-- whether a variable is there, and does so
abbrev pub is_row : Side → (table : ℕ) → Option Var → Bool
is_row side t None = false
is_row side t (Some v) = ranges_over side t v

-- whether variables x and y range over the tables of two columns of a side before the call
abbrev pub are_rows : Side → (c d : ColId) → (x y : ℕ) → List Var → Bool
are_rows side c d x y vars = is_row side c.table (slice_get vars x) && is_row side d.table (slice_get vars y)

-- whether a variable is there, and ranges over rows from before the call
abbrev pub is_start : Option Var → Bool
is_start None = false
is_start (Some v) = v.stage == 0

-- whether a body binds variable y, and it ranges over rows from before the call
abbrev pub is_inner_start : (scope vars : List Var) → (y : ℕ) → Bool
is_inner_start scope vars y = not (nat_lt y (length scope)) && is_start (slice_get vars (y - length scope))
