-- What an assignment costs by soft literals, and which model costs least.
use Rattle.std.specs.Prelude.{◌≡◌, ℕ, ◌<◌, ◌≤◌, ◌^◌, Bool, not, if◌then◌else◌, List, All}
use Rattle.std.specs.List.{sum_by}
use Rattle.mig_sat.specs.declared.clauses.SatLit.{SatLit}
use Rattle.mig_sat.specs.Models.{value_of, IsModel, IsBefore, IsInRange}
use Rattle.mig_dimacs.specs.declared.soft.SoftLit.{SoftLit}
use Rattle.mig_dimacs.specs.declared.soft.Wcnf.{Wcnf}

-- whether the assignment makes the literal true
abbrev pub holds : List Bool → SatLit → Bool
holds m l = if l.positive then value_of m l.var else not (value_of m l.var)

-- what the assignment costs by one soft literal: its weight, where it is false
abbrev pub cost_of : List Bool → SoftLit → ℕ
cost_of m s = if holds m s.lit then 0 else s.weight

-- what the assignment costs
abbrev pub cost : List SoftLit → List Bool → ℕ
cost soft m = sum_by (cost_of m) soft

-- what all soft literals weigh together
abbrev pub total : List SoftLit → ℕ
total soft = sum_by (λ (s : SoftLit). s.weight) soft

-- literals are in range, and the soft ones weigh less than 2^62 together
pub record IsSoundWcnf (p : Wcnf) : Type 0 where
  pub range : IsInRange p.hard
  pub soft : All (λ (s : SoftLit). s.lit.var < p.hard.vars) p.soft
  pub fits : total p.soft < 2 ^ 62

-- a model, no model costs less, and none that costs as much comes before it
pub record IsCheapest (p : Wcnf) (m : List Bool) : Type 0 where
  pub model : IsModel p.hard m
  pub cheapest : (o : List Bool) → IsModel p.hard o → cost p.soft m ≤ cost p.soft o
  pub first : (o : List Bool) → IsModel p.hard o → cost p.soft o ≡ cost p.soft m → IsBefore o m → ⊥
