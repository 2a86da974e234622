-- What is right for some is right for fewer.
use Rattle.std.proofs.Common.{ℕ, Bool, List, [], ◌∷◌}
use Rattle.mig_sat.specs.declared.clauses.SatLit.{SatLit}
use Rattle.mig_sat.specs.declared.steps.Step.{Step}
use Rattle.mig_sat.specs.declared.steps.Found.{Found}
use Rattle.mig_sat.specs.declared.steps.Found.TheVariants.{Conflict, Forced, Free, Full}
use Rattle.mig_sat.specs.Steps.{IsRight}
use Rattle.mig_sat.specs.Found.{IsFound}

-- steps that are right stay so
pub right_fewer : (n : ℕ) (M N : List Bool → Type 0) → ((m : List Bool) → N m → M m) → (steps : List Step) → IsRight n M steps → IsRight n N steps
right_fewer n M N h [] r = tt
right_fewer n M N h (s ∷ older) r = (
  record { in_range = r.0.in_range; fresh = r.0.fresh; chosen = r.0.chosen; follows = λ e m is f. r.0.follows e m (h m is) f },
  right_fewer n M N h older r.1,
)

-- what was found stays so
pub found_fewer : (clauses : List (List SatLit)) (n : ℕ) (M N : List Bool → Type 0) → ((m : List Bool) → N m → M m) → (steps : List Step) (found : Found) → IsFound clauses n M steps found → IsFound clauses n N steps found
found_fewer clauses n M N h steps Conflict f = λ m is follows. f m (h m is) follows
found_fewer clauses n M N h steps (Forced l) f = (f.0, f.1, λ m is follows. f.2 m (h m is) follows)
found_fewer clauses n M N h steps (Free v) f = f
found_fewer clauses n M N h steps Full f = f
