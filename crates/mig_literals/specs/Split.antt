-- A body without variables that is not held, of comparisons and bodies, becomes one alternative for each of its literals: those before it, and its complement.
use Rattle.std.specs.Prelude.{ℕ, Bool, true, false, cond, List, [], ◌∷◌, ◌++◌, Option, Some, None}
use Rattle.std.specs.List.{list_all}
use Rattle.mig_algebra.specs.declared.atoms.Var.{Var}
use Rattle.mig_algebra.specs.declared.literals.Lit.{Lit}
use Rattle.mig_classes.specs.Given.{has_complement, complement}
use Rattle.mig_steps.specs.Bodies.{by_body}
use Rattle.mig_steps.specs.Spots.{Seen}

abbrev pub first_false : (before lits : List Lit) → List (List Lit)
first_false before [] = []
first_false before (l ∷ ls) = (before ++ complement l ∷ []) ∷ first_false (before ++ l ∷ []) ls

abbrev pub split_body : Bool → List Var → List Lit → Option (List (List Lit))
split_body false [] lits = cond (list_all has_complement lits) (Some (first_false [] lits)) None
split_body false (v ∷ vars) lits = None
split_body true vars lits = None

abbrev pub split_lit : Lit → Option (List (List Lit))
split_lit l = by_body split_body None l

abbrev pub split : List ℕ → Seen → Option (List (List Lit))
split [] s = split_lit s.lit
split (a ∷ args) s = None
