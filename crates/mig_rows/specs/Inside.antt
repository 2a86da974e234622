-- A variable of a body goes that one equality alone names, since some row meets it in any case. The arguments: the variable, the one whose column it is tied to, and the invariant by which that column is within the variable's one.
use Rattle.std.specs.Prelude.{ℕ, ◌+◌, ◌-◌, ◌==◌, nat_lt, Bool, false, cond, not, ◌&&◌, List, [], ◌∷◌, ◌++◌, length, slice_get, Option, Some, None}
use Rattle.std.specs.Option.{option_and_then}
use Rattle.mig_schema.specs.declared.faults.Side.{Side}
use Rattle.mig_schema.specs.declared.tables.ColId.{ColId}
use Rattle.mig_meaning.specs.declared.relating.Invariant.{Invariant}
use Rattle.mig_meaning.specs.declared.relating.Invariant.TheVariants.{Views, Unique, Apart, Within}
use Rattle.mig_algebra.specs.declared.atoms.Var.{Var}
use Rattle.mig_algebra.specs.declared.literals.Inner.{Inner}
use Rattle.mig_algebra.specs.declared.literals.Lit.{Lit}
use Rattle.mig_algebra.specs.declared.terms.Term.{Term}
use Rattle.mig_listing.specs.Chosen.{chosen}
use Rattle.mig_replacing.specs.Places.{others}
use Rattle.mig_replacing.specs.Replaced.{spread}
use Rattle.mig_steps.specs.Bodies.{by_body}
use Rattle.mig_steps.specs.Spots.{Seen, spot_at}
use Rattle.mig_steps.specs.Variables.{leaving_out}
use Rattle.mig_rows.specs.Naming.{first_naming, names_once}
use Rattle.mig_rows.specs.Ranging.{is_row, is_start, is_inner_start}
use Rattle.mig_rows.specs.Writing.{lits_left}

-- a body without its variable j, which has number i in scope, and the literal that names it
abbrev pub body_left : (i j : ℕ) → Inner → Inner
body_left i j b = record {
  vars = leaving_out j b.vars;
  lits = lits_left i (others b.lits (first_naming i b.lits));
}

-- whether a body binds z, y is another variable in scope in it, and they range over the tables of two columns of a side before the call
abbrev pub are_within : Side → (c d : ColId) → (z y : ℕ) → (scope vars : List Var) → Bool
are_within side c d z y scope vars =
    not (nat_lt z (length scope))
    && (not (y == z) && (is_row side d.table (slice_get vars (z - length scope)) && is_row side c.table (slice_get (scope ++ vars) y)))

-- the alternatives for a body without z
abbrev pub body_inside : (z : ℕ) → (scope : List Var) → Bool → (vars : List Var) → List Lit → List (List Lit)
body_inside z scope held vars lits = spread held (body_left z (z - length scope) (record { vars = vars; lits = lits }) ∷ [])

-- where one equality alone names z, and ties its column to y's
abbrev pub inside_by_columns : Side → (c d : ColId) → (z y : ℕ) → Seen → Bool → List Var → List Lit → Option (List (List Lit))
inside_by_columns side c d z y s held vars lits =
    cond (are_within side c d z y s.scope vars && names_once s.around z d.column y c.column lits) (Some (body_inside z s.scope held vars lits)) None

-- where y's column is within z's
abbrev pub inside_by : (z y : ℕ) → Seen → Invariant → Bool → List Var → List Lit → Option (List (List Lit))
inside_by z y s (Within side c d) held vars lits = inside_by_columns side c d z y s held vars lits
inside_by z y s (Views source target) held vars lits = None
inside_by z y s (Unique side c) held vars lits = None
inside_by z y s (Apart side c d) held vars lits = None

-- the same of a literal
abbrev pub inside_lit : (z y : ℕ) → Seen → Lit → Invariant → Option (List (List Lit))
inside_lit z y s l inv = by_body (inside_by z y s inv) None l

-- the rule
abbrev pub inside : List Invariant → List ℕ → Seen → Option (List (List Lit))
inside invs (z ∷ (y ∷ (k ∷ []))) s = option_and_then (inside_lit z y s s.lit) (slice_get invs k)
inside invs args s = None

-- ---- what is tried

-- whether an invariant is there, and says that a column of y's table is within one of z's
abbrev pub ties_inside : (scope vars : List Var) → (z y : ℕ) → Option Invariant → Bool
ties_inside scope vars z y None = false
ties_inside scope vars z y (Some (Within side c d)) = are_within side c d z y scope vars
ties_inside scope vars z y (Some (Views source target)) = false
ties_inside scope vars z y (Some (Unique side c)) = false
ties_inside scope vars z y (Some (Apart side c d)) = false

-- whether a body's variable may stand first, another in scope in it second, and an invariant third
abbrev pub may_be_inside : List Invariant → (scope vars : List Var) → List ℕ → Bool
may_be_inside invs scope vars (z ∷ []) = is_inner_start scope vars z
may_be_inside invs scope vars (z ∷ (y ∷ [])) = not (y == z) && is_start (slice_get (scope ++ vars) y)
may_be_inside invs scope vars (z ∷ (y ∷ (k ∷ []))) = ties_inside scope vars z y (slice_get invs k)
may_be_inside invs scope vars args = false

-- for a body, each of its variables with each other one in scope in it and each invariant by which a column of the one's table is within one of the other's
abbrev pub inside_in : List Invariant → (scope vars : List Var) → List (List ℕ)
inside_in invs scope vars = chosen (may_be_inside invs scope vars) (length invs + (length scope + length vars)) 3 []

-- for a literal, if it has a body
abbrev pub inside_of : List Invariant → (scope : List Var) → Lit → List (List ℕ)
inside_of invs scope l = by_body (λ held vars lits. inside_in invs scope vars) [] l

-- for the literal that is seen at a path
abbrev pub inside_at : List Invariant → Option Seen → List (List ℕ)
inside_at invs None = []
inside_at invs (Some s) = inside_of invs s.scope s.lit

abbrev pub inside_args : List Invariant → (path : List ℕ) → Term → List (List ℕ)
inside_args invs path t = inside_at invs (spot_at t path)
