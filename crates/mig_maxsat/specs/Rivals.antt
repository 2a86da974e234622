-- What a search holds so far, and the models that are heavier.
use Rattle.std.specs.Prelude.{◌≡◌, ◌⊎◌, ◌≤◌, ◌^◌, ◌<ℤ◌, ◌≤ℤ◌, ℤ, Bool, List, Option, Some, None, IfSome}
use Rattle.std.specs.Int.RustNames.{unsigned_abs}
use Rattle.mig_sat.specs.declared.clauses.Model.{Model}
use Rattle.mig_sat.specs.declared.steps.Step.{Step}
use Rattle.mig_sat.specs.declared.steps.Found.{Found}
use Rattle.mig_sat.specs.declared.steps.Found.TheVariants.{Full}
use Rattle.mig_sat.specs.Models.{IsModel, IsBefore}
use Rattle.mig_sat.specs.Steps.{IsRight, IsRefuted}
use Rattle.mig_sat.specs.Found.{IsFound}
use Rattle.mig_maxsat.specs.declared.weighted.Weighted.{Weighted}
use Rattle.mig_maxsat.specs.declared.keeping.Held.{Held}
use Rattle.mig_maxsat.specs.Heaviest.{weight}

-- it is more than the floor, if there is a floor
abbrev pub IsAbove : (floor : Option ℤ) → ℤ → Type 0
IsAbove None w = Unit {0}
IsAbove (Some k) w = k <ℤ w

-- the floor is at most 2^62 in size
abbrev pub IsFloor : Option ℤ → Type 0
IsFloor floor = IfSome floor (λ k. unsigned_abs k ≤ 2 ^ 62)

-- a model that weighs more than the floor
pub record IsRival (p : Weighted) (floor : Option ℤ) (o : List Bool) : Type 0 where
  pub model : IsModel p.hard o
  pub above : IsAbove floor (weight p.weights o)

-- nothing was found above this floor; or a model that weighs as much, and models before it weigh less
abbrev pub IsFoundAbove : Weighted → (start floor : Option ℤ) → Option Model → Type 0
IsFoundAbove p start floor None = floor ≡ start
IsFoundAbove p start floor (Some b) = (floor ≡ Some (weight p.weights b.values)) × IsModel p.hard b.values × ((o : List Bool) → IsModel p.hard o → weight p.weights b.values ≤ℤ weight p.weights o → IsBefore o b.values → ⊥)

-- so it is with what is held, where the search began above this floor
abbrev pub IsHeld : Weighted → (start : Option ℤ) → Held → Type 0
IsHeld p start held = IsFoundAbove p start held.floor held.model

-- the model and what it weighs, where that is above the floor; else what was held
abbrev pub IsBetter : List ℤ → Held → Model → Held → Type 0
IsBetter ws old model new = (IsAbove old.floor (weight ws model.values) × (new ≡ record { floor = Some (weight ws model.values); model = Some model })) ⊎ ((IsAbove old.floor (weight ws model.values) → ⊥) × (new ≡ old))

-- what holds once the steps and what was found under them have been seen
pub record IsSettled (p : Weighted) (old new : Held) (steps : List Step) (seen : Found) : Type 0 where
  pub right : IsRight p.hard.vars (IsRival p new.floor) steps
  pub so : IsFound p.hard.clauses p.hard.vars (IsRival p new.floor) steps seen
  pub full : seen ≡ Full → IsRefuted (IsRival p new.floor) steps
  pub kept : (start : Option ℤ) → IsHeld p start old → IsHeld p start new
