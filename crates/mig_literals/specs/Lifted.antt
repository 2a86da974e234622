-- A held body without variables becomes its literals.
use Rattle.std.specs.Prelude.{ℕ, Bool, true, false, List, [], ◌∷◌, Option, Some, None}
use Rattle.mig_algebra.specs.declared.atoms.Var.{Var}
use Rattle.mig_algebra.specs.declared.literals.Lit.{Lit}
use Rattle.mig_steps.specs.Bodies.{by_body}
use Rattle.mig_steps.specs.Spots.{Seen}

abbrev pub lifted_body : Bool → List Var → List Lit → Option (List (List Lit))
lifted_body true [] lits = Some (lits ∷ [])
lifted_body true (v ∷ vars) lits = None
lifted_body false vars lits = None

abbrev pub lifted_lit : Lit → Option (List (List Lit))
lifted_lit l = by_body lifted_body None l

abbrev pub lifted : List ℕ → Seen → Option (List (List Lit))
lifted [] s = lifted_lit s.lit
lifted (a ∷ args) s = None
