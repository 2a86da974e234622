-- Variables of a body are folded by a view. The arguments: the invariant, which is a view, and the variables for the tables of its old side, in order.
use Rattle.std.specs.Prelude.{ℕ, Bool, List, [], ◌∷◌, ◌++◌, length, slice_get, Option, Some, None}
use Rattle.std.specs.Option.{option_map, option_and_then}
use Rattle.mig_meaning.specs.declared.relating.View.{View}
use Rattle.mig_meaning.specs.declared.relating.Invariant.{Invariant}
use Rattle.mig_meaning.specs.declared.relating.Invariant.TheVariants.{Views, Unique, Apart, Within}
use Rattle.mig_algebra.specs.declared.atoms.Var.{Var}
use Rattle.mig_algebra.specs.declared.literals.Inner.{Inner}
use Rattle.mig_algebra.specs.declared.literals.Lit.{Lit}
use Rattle.mig_algebra.specs.declared.terms.Term.{Term}
use Rattle.mig_replacing.specs.Given.{plain}
use Rattle.mig_replacing.specs.Replaced.{spread}
use Rattle.mig_steps.specs.Bodies.{by_body}
use Rattle.mig_steps.specs.Spots.{Seen, spot_at}
use Rattle.mig_folding.specs.Folding.{foldin_of}
use Rattle.mig_folding.specs.Naming.{Host, host_args}

-- the alternatives for a body alone
abbrev pub one_body : Bool → Inner → List (List Lit)
one_body held c = spread held (c ∷ [])

-- the alternatives for a body of which variables are folded by a view
abbrev pub foldin_views : List ℕ → Seen → (source target : View) → Bool → Inner → Option (List (List Lit))
foldin_views xs s source target held b = option_map (one_body held) (foldin_of source target xs s.scope s.around b)

-- by an invariant, which has to be a view
abbrev pub foldin_by : List ℕ → Seen → Invariant → Bool → List Var → List Lit → Option (List (List Lit))
foldin_by xs s (Views source target) held vars lits = foldin_views xs s source target held (record { vars = vars; lits = lits })
foldin_by xs s (Unique side column) held vars lits = None
foldin_by xs s (Apart side left right) held vars lits = None
foldin_by xs s (Within side left right) held vars lits = None

-- the same of a literal
abbrev pub foldin_lit : List ℕ → Seen → Lit → Invariant → Option (List (List Lit))
foldin_lit xs s l inv = by_body (foldin_by xs s inv) None l

-- the rule
abbrev pub foldin : List Invariant → List ℕ → Seen → Option (List (List Lit))
foldin invs (k ∷ xs) s = option_and_then (foldin_lit xs s s.lit) (slice_get invs k)
foldin invs [] s = None

-- ---- what is tried

-- a body as a host, where these variables are in scope and these plain literals stand around it
abbrev pub body_host : (scope : List Var) → (around : List Lit) → (vars : List Var) → List Lit → Host
body_host scope around vars lits = record { base = length scope; vars = vars; scope = scope ++ vars; known = around ++ plain lits }

-- the views, each with the variables of the literal's body that may stand for its old side's tables, if it has one
abbrev pub foldin_of_lit : List Invariant → (scope : List Var) → (around : List Lit) → Lit → List (List ℕ)
foldin_of_lit invs scope around l = by_body (λ held vars lits. host_args invs (body_host scope around vars lits)) [] l

-- for the literal that is seen at a path
abbrev pub foldin_at : List Invariant → Option Seen → List (List ℕ)
foldin_at invs None = []
foldin_at invs (Some s) = foldin_of_lit invs s.scope s.around s.lit

abbrev pub foldin_args : List Invariant → (path : List ℕ) → Term → List (List ℕ)
foldin_args invs path t = foldin_at invs (spot_at t path)
