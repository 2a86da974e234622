-- What a clause says under some steps: a conflict, a literal that must be true, or nothing.
use Rattle.std.specs.Prelude.{◌≡◌, ℕ, ◌<◌, ◌⊎◌, List, Option, Some, None, length, slice_index_or, All, Any}
use Rattle.mig_sat.specs.declared.clauses.SatLit.{SatLit}
use Rattle.mig_sat.specs.declared.steps.Step.{Step}
use Rattle.mig_sat.specs.declared.steps.Judged.{Judged}
use Rattle.mig_sat.specs.declared.steps.Judged.TheVariants.{Falsified, Unit as UnitClause, Open}
use Rattle.mig_sat.specs.declared.steps.Found.{Found}
use Rattle.mig_sat.specs.declared.steps.Found.TheVariants.{Conflict, Forced, Free, Full}
use Rattle.mig_sat.specs.Steps.{value_at, IsFalse}

-- the steps make the literal true
abbrev pub IsTrueLit : List Step → SatLit → Type 0
IsTrueLit steps l = value_at l.var steps ≡ Some l.positive

-- the steps give the literal's variable no value
abbrev pub IsFreeLit : List Step → SatLit → Type 0
IsFreeLit steps l = value_at l.var steps ≡ None

-- the literals at two places have no value
pub record HasTwoFree (steps : List Step) (clause : List SatLit) : Type 0 where
  pub first : ℕ
  pub second : ℕ
  pub order : first < second
  pub within : second < length clause
  pub first_free : (d : SatLit) → IsFreeLit steps (slice_index_or clause first d)
  pub second_free : (d : SatLit) → IsFreeLit steps (slice_index_or clause second d)

-- nothing follows from the clause: a literal is true, or two have no value
abbrev pub IsOpen : List Step → List SatLit → Type 0
IsOpen steps clause = Any (IsTrueLit steps) clause ⊎ HasTwoFree steps clause

-- the literal stands in the clause and has no value, and all other literals are false
abbrev pub IsLeft : List Step → List SatLit → SatLit → Type 0
IsLeft steps clause l = IsFreeLit steps l × All (λ k. IsFalse steps k ⊎ (k ≡ l)) clause × Any (λ k. k ≡ l) clause

-- what a clause is under the steps, over so many variables
abbrev pub IsJudged : List Step → ℕ → List SatLit → Judged → Type 0
IsJudged steps size clause Falsified = All (IsFalse steps) clause
IsJudged steps size clause (UnitClause l) = (l.var < size) × IsLeft steps clause l
IsJudged steps size clause Open = IsOpen steps clause

-- what the clause says, if there is one
abbrev pub IsSaid : List Step → Option (List SatLit) → Found → Type 0
IsSaid steps None found = ⊥
IsSaid steps (Some clause) Conflict = All (IsFalse steps) clause
IsSaid steps (Some clause) (Forced l) = IsLeft steps clause l
IsSaid steps (Some clause) (Free v) = ⊥
IsSaid steps (Some clause) Full = ⊥

-- the clause says nothing, or is missing
abbrev pub IsSilent : List Step → Option (List SatLit) → Type 0
IsSilent steps None = Unit {0}
IsSilent steps (Some clause) = IsOpen steps clause
