-- A variable of a term, or of a body, is unfolded by the statement before its stage. The argument of both rules: the variable.
use Rattle.std.specs.Prelude.{ℕ, ◌+◌, ◌-◌, ◌==◌, nat_lt, Bool, false, cond, not, ◌&&◌, List, [], ◌∷◌, map, length, slice_get, Option, Some, None}
use Rattle.std.specs.Option.{option_map, option_and_then}
use Rattle.mig_schema.specs.declared.faults.Side.{Side}
use Rattle.mig_schema.specs.declared.faults.Side.TheVariants.{Old, New}
use Rattle.mig_schema.specs.declared.programs.Stmt.{Stmt}
use Rattle.mig_algebra.specs.declared.atoms.Var.{Var}
use Rattle.mig_algebra.specs.declared.literals.Lit.{Lit}
use Rattle.mig_algebra.specs.declared.terms.Term.{Term}
use Rattle.mig_algebra.specs.Proper.{Sides}
use Rattle.mig_listing.specs.Chosen.{chosen}
use Rattle.mig_obligations.specs.Settings.{statements}
use Rattle.mig_replacing.specs.Replaced.{spread}
use Rattle.mig_steps.specs.Bodies.{by_body}
use Rattle.mig_steps.specs.Spots.{Seen, spot_at}
use Rattle.mig_unfolding.specs.Hosts.{as_body}
use Rattle.mig_unfolding.specs.Unfolding.{unfolded}

-- the statements of a side's function
abbrev pub statements_at : Sides → Side → List Stmt
statements_at p Old = statements p.source_fn.body
statements_at p New = statements p.target_fn.body

-- the statement that leads to a variable's stage; none leads to stage 0
abbrev pub last_statement : Sides → Var → Option Stmt
last_statement p v = cond (v.stage == 0) None (slice_get (statements_at p v.side) (v.stage - 1))

-- unfolds a host's own variable of number i, where these variables stand around the host
abbrev pub by_stage : Sides → (scope : List Var) → (i : ℕ) → Term → Option (List Term)
by_stage p sc i t = option_and_then (λ (w : Var). option_and_then (λ s. unfolded s sc i w t) (last_statement p w)) (slice_get t.vars i)

-- the rule for terms
abbrev pub stage : Sides → List ℕ → Term → Option (List Term)
stage p (v ∷ []) t = by_stage p [] v t
stage p args t = None

-- what a body becomes, where these variables stand around it
abbrev pub stagein_body : Sides → (scope : List Var) → (v : ℕ) → Bool → List Var → List Lit → Option (List (List Lit))
stagein_body p sc v held vars lits =
    cond (nat_lt v (length sc)) None
    (option_map (λ (hosts : List Term). spread held (map as_body hosts)) (by_stage p sc (v - length sc) (record { vars = vars; lits = lits; head = [] })))

-- what a literal becomes
abbrev pub stagein_lit : Sides → (scope : List Var) → (v : ℕ) → Lit → Option (List (List Lit))
stagein_lit p sc v l = by_body (stagein_body p sc v) None l

-- the rule for bodies
abbrev pub stagein : Sides → List ℕ → Seen → Option (List (List Lit))
stagein p (v ∷ []) s = stagein_lit p s.scope v s.lit
stagein p args s = None

-- ---- what is tried

-- whether a variable is there, of a stage after a statement
abbrev pub has_stage : Option Var → Bool
has_stage None = false
has_stage (Some v) = not (v.stage == 0)

-- whether one of these variables, which stand behind n others, stands alone, of such a stage
abbrev pub may_unfold : (n : ℕ) → List Var → List ℕ → Bool
may_unfold n vars (v ∷ []) = not (nat_lt v n) && has_stage (slice_get vars (v - n))
may_unfold n vars args = false

-- the term's variables of such stages, each alone
abbrev pub stage_args : Term → List (List ℕ)
stage_args t = chosen (may_unfold 0 t.vars) (length t.vars) 1 []

-- a body's, where n variables stand around it
abbrev pub body_args : (n : ℕ) → Bool → List Var → List Lit → List (List ℕ)
body_args n held vars lits = chosen (may_unfold n vars) (n + length vars) 1 []

abbrev pub lit_args : (n : ℕ) → Lit → List (List ℕ)
lit_args n l = by_body (body_args n) [] l

-- those of the body at a path
abbrev pub spot_args : Option Seen → List (List ℕ)
spot_args None = []
spot_args (Some s) = lit_args (length s.scope) s.lit

abbrev pub stagein_args : (path : List ℕ) → Term → List (List ℕ)
stagein_args path t = spot_args (spot_at t path)
