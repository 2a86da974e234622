-- A variable of a body becomes one outside it, since their table's column is unique. The arguments: the variable that goes, the one outside, and the invariant.
use Rattle.std.specs.Prelude.{ℕ, ◌+◌, ◌-◌, nat_lt, Bool, false, cond, not, ◌&&◌, List, [], ◌∷◌, ◌++◌, length, slice_get, Option, Some, None}
use Rattle.std.specs.Option.{option_and_then}
use Rattle.mig_schema.specs.declared.faults.Side.{Side}
use Rattle.mig_schema.specs.declared.tables.ColId.{ColId}
use Rattle.mig_meaning.specs.declared.relating.Invariant.{Invariant}
use Rattle.mig_meaning.specs.declared.relating.Invariant.TheVariants.{Views, Unique, Apart, Within}
use Rattle.mig_algebra.specs.declared.atoms.Var.{Var}
use Rattle.mig_algebra.specs.declared.atoms.Atom.TheVariants.{Col}
use Rattle.mig_algebra.specs.declared.literals.Lit.{Lit}
use Rattle.mig_algebra.specs.declared.terms.Term.{Term}
use Rattle.mig_classes.specs.Classes.{one_class}
use Rattle.mig_listing.specs.Chosen.{chosen}
use Rattle.mig_replacing.specs.Given.{plain}
use Rattle.mig_replacing.specs.Replaced.{spread}
use Rattle.mig_steps.specs.Bodies.{by_body}
use Rattle.mig_steps.specs.Spots.{Seen, spot_at}
use Rattle.mig_rows.specs.Ranging.{is_row, is_start, is_inner_start}
use Rattle.mig_rows.specs.Writing.{body_into}

-- whether a body binds y, x stands outside it, and both range over a table of a side before the call
abbrev pub is_outside : Side → (table : ℕ) → (y x : ℕ) → (scope vars : List Var) → Bool
is_outside side t y x scope vars =
    not (nat_lt y (length scope)) && (is_row side t (slice_get vars (y - length scope)) && is_row side t (slice_get scope x))

-- the alternatives for a body with x written for y
abbrev pub body_alone : (y x : ℕ) → (scope : List Var) → Bool → (vars : List Var) → List Lit → List (List Lit)
body_alone y x scope held vars lits = spread held (body_into y (y - length scope) x (record { vars = vars; lits = lits }) ∷ [])

-- where y's column and x's are in one class of the body's plain literals and those around it
abbrev pub alone_by_column : Side → ColId → (y x : ℕ) → Seen → Bool → List Var → List Lit → Option (List (List Lit))
alone_by_column side c y x s held vars lits =
    cond (is_outside side c.table y x s.scope vars && one_class (s.around ++ plain lits) (Col y c.column) (Col x c.column)) (Some (body_alone y x s.scope held vars lits)) None

-- where the column of both is unique
abbrev pub alone_by : (y x : ℕ) → Seen → Invariant → Bool → List Var → List Lit → Option (List (List Lit))
alone_by y x s (Unique side c) held vars lits = alone_by_column side c y x s held vars lits
alone_by y x s (Views source target) held vars lits = None
alone_by y x s (Apart side c d) held vars lits = None
alone_by y x s (Within side c d) held vars lits = None

-- the same of a literal
abbrev pub alone_lit : (y x : ℕ) → Seen → Lit → Invariant → Option (List (List Lit))
alone_lit y x s l inv = by_body (alone_by y x s inv) None l

-- the rule
abbrev pub alone : List Invariant → List ℕ → Seen → Option (List (List Lit))
alone invs (y ∷ (x ∷ (k ∷ []))) s = option_and_then (alone_lit y x s s.lit) (slice_get invs k)
alone invs args s = None

-- ---- what is tried

-- whether an invariant is there, and says that a column of the table of y and of x is unique
abbrev pub tells_outside : (scope vars : List Var) → (y x : ℕ) → Option Invariant → Bool
tells_outside scope vars y x None = false
tells_outside scope vars y x (Some (Unique side c)) = is_outside side c.table y x scope vars
tells_outside scope vars y x (Some (Views source target)) = false
tells_outside scope vars y x (Some (Apart side c d)) = false
tells_outside scope vars y x (Some (Within side c d)) = false

-- whether a body's variable may stand first, one outside it second, and an invariant third
abbrev pub may_be_alone : List Invariant → (scope vars : List Var) → List ℕ → Bool
may_be_alone invs scope vars (y ∷ []) = is_inner_start scope vars y
may_be_alone invs scope vars (y ∷ (x ∷ [])) = is_start (slice_get scope x)
may_be_alone invs scope vars (y ∷ (x ∷ (k ∷ []))) = tells_outside scope vars y x (slice_get invs k)
may_be_alone invs scope vars args = false

-- for a body, each of its variables with each outside it and each invariant by which a column of their table is unique
abbrev pub alone_in : List Invariant → (scope vars : List Var) → List (List ℕ)
alone_in invs scope vars = chosen (may_be_alone invs scope vars) (length invs + (length scope + length vars)) 3 []

-- for a literal, if it has a body
abbrev pub alone_of : List Invariant → (scope : List Var) → Lit → List (List ℕ)
alone_of invs scope l = by_body (λ held vars lits. alone_in invs scope vars) [] l

-- for the literal that is seen at a path
abbrev pub alone_at : List Invariant → Option Seen → List (List ℕ)
alone_at invs None = []
alone_at invs (Some s) = alone_of invs s.scope s.lit

abbrev pub alone_args : List Invariant → (path : List ℕ) → Term → List (List ℕ)
alone_args invs path t = alone_at invs (spot_at t path)
