-- A search for a great weight alone.
use Rattle.std.specs.Prelude.{◌≡◌, ℕ, ℤ, pos, int_lt, Bool, true, List, ◌∷◌, Option, Some, None}
use Rattle.mig_sat.specs.declared.steps.Step.{Step}
use Rattle.mig_sat.specs.declared.steps.Found.{Found}
use Rattle.mig_sat.specs.declared.steps.Found.TheVariants.{Conflict, Forced, Free, Full}
use Rattle.mig_sat.specs.Models.{IsModel}
use Rattle.mig_sat.specs.Found.{advanced}
use Rattle.mig_maxsat.specs.declared.weighted.Weighted.{Weighted}
use Rattle.mig_maxsat.specs.Heaviest.{weight}
use Rattle.mig_maxsat.specs.Bounds.{weight_of}

-- whether the variable weighs more than nothing
abbrev pub is_gaining : List ℤ → ℕ → Bool
is_gaining ws v = int_lt (pos 0) (weight_of ws v)

-- the variable as a choice: true where it weighs more than nothing
abbrev pub likely : List ℤ → ℕ → Step
likely ws v = record { lit = record { var = v; positive = is_gaining ws v }; chosen = true }

-- the steps after what was found: as in any search, but for the value that is tried first
abbrev pub tried : List ℤ → Found → List Step → Option (List Step)
tried ws Conflict steps = advanced Conflict steps
tried ws (Forced l) steps = advanced (Forced l) steps
tried ws (Free v) steps = Some (likely ws v ∷ steps)
tried ws Full steps = advanced Full steps

-- some model weighs what was reached, if anything was
abbrev pub IsReached : Weighted → Option ℤ → Type 0
IsReached p None = Unit {0}
IsReached p (Some w) = (m : List Bool) × IsModel p.hard m × (weight p.weights m ≡ w)
