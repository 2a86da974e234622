-- What is found of clauses under the steps of a search, and what is done about it.
use Rattle.std.specs.Prelude.{◌≡◌, ℕ, ◌<◌, Bool, true, false, List, ◌∷◌, Option, Some, None, All, Any}
use Rattle.mig_sat.specs.declared.clauses.SatLit.{SatLit}
use Rattle.mig_sat.specs.declared.steps.Step.{Step}
use Rattle.mig_sat.specs.declared.steps.Found.{Found}
use Rattle.mig_sat.specs.declared.steps.Found.TheVariants.{Conflict, Forced, Free, Full}
use Rattle.mig_sat.specs.Models.{HoldsLit}
use Rattle.mig_sat.specs.Steps.{value_at, HasValuesBelow, IsNotFalse, FollowsAll, turned_back}

-- none of M follows the steps
abbrev pub IsUnfollowed : (List Bool → Type 0) → List Step → Type 0
IsUnfollowed M steps = (m : List Bool) → M m → FollowsAll m steps → ⊥

-- what is found under the steps, over n variables
abbrev pub IsFound : List (List SatLit) → ℕ → (List Bool → Type 0) → List Step → Found → Type 0
IsFound clauses n M steps Conflict = IsUnfollowed M steps
IsFound clauses n M steps (Forced l) = (l.var < n) × (value_at l.var steps ≡ None) × ((m : List Bool) → M m → FollowsAll m steps → HoldsLit m l)
IsFound clauses n M steps (Free v) = (v < n) × (value_at v steps ≡ None) × HasValuesBelow steps v
IsFound clauses n M steps Full = HasValuesBelow steps n × All (Any (IsNotFalse steps)) clauses

-- what is found needs no value of a variable that has one
abbrev pub IsPossible : ℕ → List Step → Found → Type 0
IsPossible n steps Conflict = Unit {0}
IsPossible n steps (Forced l) = (l.var < n) × (value_at l.var steps ≡ None)
IsPossible n steps (Free v) = (v < n) × (value_at v steps ≡ None)
IsPossible n steps Full = Unit {0}

-- the literal as a step that follows
abbrev pub forced : SatLit → Step
forced l = record { lit = l; chosen = false }

-- the variable as a choice
abbrev pub choice : ℕ → Step
choice v = record { lit = record { var = v; positive = true }; chosen = true }

-- the steps after what was found: one more, or with the newest choice turned, if there is one
abbrev pub advanced : Found → List Step → Option (List Step)
advanced Conflict steps = turned_back steps
advanced (Forced l) steps = Some (forced l ∷ steps)
advanced (Free v) steps = Some (choice v ∷ steps)
advanced Full steps = turned_back steps
