-- What a search for a great weight reaches, and what that says of the one that follows.
use Rattle.std.proofs.Common.{◌≡◌, ℕ, ◌<◌, ◌≤◌, ◌^◌, ◌<ℤ◌, ◌-ℤ◌, ℤ, pos, Bool, List, ◌∷◌, length, Option, Some, None, subst, arith}
use Rattle.std.specs.Prelude.{IfSome, IfNone, option_map}
use Rattle.std.specs.Int.RustNames.{unsigned_abs}
use Rattle.std.proofs.lemmas.Int.{ints}
use Rattle.std.proofs.lemmas.Option.{same_Some}
use Rattle.mig_sat.specs.declared.clauses.Model.{Model}
use Rattle.mig_sat.specs.declared.steps.Step.{Step}
use Rattle.mig_sat.specs.declared.steps.Found.{Found}
use Rattle.mig_sat.specs.declared.steps.Found.TheVariants.{Conflict, Forced, Free, Full}
use Rattle.mig_sat.specs.Models.{HasNoModel}
use Rattle.mig_sat.proofs.Measure.{work}
use Rattle.mig_sat.proofs.Progress.{work-more, work-advanced}
use Rattle.mig_maxsat.specs.declared.weighted.Weighted.{Weighted}
use Rattle.mig_maxsat.specs.Heaviest.{weight, IsSound}
use Rattle.mig_maxsat.specs.Rivals.{IsFloor, IsRival}
use Rattle.mig_maxsat.specs.Scouting.{likely, tried, IsReached}
use Rattle.mig_maxsat.proofs.Weights.{weight_small}

-- what some model weighs is below 2^62 in size
pub reached_small : (p : Weighted) (reached : Option ℤ) → IsSound p → IsReached p reached → IfSome reached (λ w. unsigned_abs w < 2 ^ 62)
reached_small p None sound is = tt
reached_small p (Some w) sound is =
    let weighs = weight_small p.weights is.0 in
    let fits = sound.fits in
    subst (λ (x : ℤ). unsigned_abs x < 2 ^ 62) is.2 (omega (arith, weighs, fits))

-- so it can be a floor
pub reached_floor : (p : Weighted) (reached : Option ℤ) → IsSound p → IsReached p reached → IsFloor reached
reached_floor p None sound is = tt
reached_floor p (Some w) sound is = let small = reached_small p (Some w) sound is in omega (arith, small)

-- whatever is done leaves less to do
pub work-tried : (ws : List ℤ) (n : ℕ) (steps new : List Step) (found : Found) → length steps ≤ n → length new ≤ n → tried ws found steps ≡ Some new → work n new < work n steps
work-tried ws n steps new Conflict room room' e = work-advanced n steps new Conflict room room' e
work-tried ws n steps new (Forced l) room room' e = work-advanced n steps new (Forced l) room room' e
work-tried ws n steps new (Free v) room room' e = work-more n (likely ws v) steps new (same_Some (likely ws v ∷ steps) new e) room'
work-tried ws n steps new Full room room' e = work-advanced n steps new Full room room' e

-- a weight is above one less
pub above_less : (w x : ℤ) → x ≡ w → (w -ℤ pos 1) <ℤ x
above_less w x e = omega (arith, ints, e)

-- where no model weighs as much as was reached, none was reached, and there is none
pub none_reached : (p : Weighted) (reached : Option ℤ) (found : Option Model) → IsReached p reached → IfNone found ((m : List Bool) → IsRival p (option_map (λ w. w -ℤ pos 1) reached) m → ⊥) → IfNone found (HasNoModel p.hard)
none_reached p reached (Some b) is none = tt
none_reached p None None is none = λ m model. none m (record { model = model; above = tt })
none_reached p (Some w) None is none = λ m model. none is.0 (record { model = is.1; above = above_less w (weight p.weights is.0) is.2 })
