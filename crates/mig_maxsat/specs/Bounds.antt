-- Bounds on what models weigh that follow some steps.
use Rattle.std.specs.Prelude.{◌≡◌, ◌⊎◌, ℕ, ◌≤◌, ◌≤ℤ◌, ◌<ℤ◌, ◌+ℤ◌, ℤ, pos, Bool, true, if◌then◌else◌, List, [], ◌∷◌, Option, Some, length, slice_index_or, slice_set, All}
use Rattle.std.specs.Int.RustNames.{unsigned_abs}
use Rattle.mig_sat.specs.declared.clauses.SatLit.{SatLit}
use Rattle.mig_sat.specs.declared.steps.Step.{Step}
use Rattle.mig_sat.specs.Models.{IsModel}
use Rattle.mig_sat.specs.Steps.{IsFalse, IsNotFalse, FollowsAll}
use Rattle.mig_maxsat.specs.declared.weighted.Weighted.{Weighted}
use Rattle.mig_maxsat.specs.Heaviest.{weight, magnitude}

-- a variable with this value, if it has one, weighs no more, true or false
pub record IsMost (value : Option Bool) (w most : ℤ) : Type 0 where
  pub bound : (b : Bool) → ((c : Bool) → value ≡ Some c → b ≡ c) → (if b then w else pos 0) ≤ℤ most
  pub small : unsigned_abs most ≤ unsigned_abs w

-- a variable's weight; 0 past the end
abbrev pub weight_of : List ℤ → ℕ → ℤ
weight_of ws v = slice_index_or ws v (pos 0)

-- it costs so much at least to make the literal true
abbrev pub CostsLit : List Step → List ℤ → ℤ → SatLit → Type 0
CostsLit steps ws cost l = IsFalse steps l ⊎ ((l.positive ≡ true) × ((weight_of ws l.var +ℤ cost) ≤ℤ pos 0))

-- the variable's weight where the literal was paid for: it stays where the literal is false, or the cost would make it positive
abbrev pub IsPayment : List Step → SatLit → ℤ → List ℤ → List ℤ → Type 0
IsPayment steps l cost old new = (IsFalse steps l × (new ≡ old)) ⊎ ((IsNotFalse steps l × ((weight_of old l.var +ℤ cost) ≤ℤ pos 0) × (new ≡ slice_set old l.var (weight_of old l.var +ℤ cost))) ⊎ (IsNotFalse steps l × (pos 0 <ℤ (weight_of old l.var +ℤ cost)) × (new ≡ old)))

-- the weights where each literal was paid for once, one after the other
abbrev pub ArePaid : List Step → List SatLit → ℤ → List ℤ → List ℤ → Type 0
ArePaid steps [] cost old new = new ≡ old
ArePaid steps (l ∷ ls) cost old new = (mid : List ℤ) × IsPayment steps l cost old mid × ArePaid steps ls cost mid new

-- the variable of the literal has become heavier by the cost
abbrev pub IsPaid : List Step → List ℤ → List ℤ → ℤ → SatLit → Type 0
IsPaid steps old new cost l = IsFalse steps l ⊎ ((l.positive ≡ true) × ((weight_of old l.var +ℤ cost) ≤ℤ weight_of new l.var))

-- weights have become heavier by the cost, or stayed; those of the clause's literals that are not false have become so
pub record IsRaised (steps : List Step) (clause : List SatLit) (cost : ℤ) (old new : List ℤ) : Type 0 where
  pub sized : length new ≡ length old
  pub small : magnitude new ≤ magnitude old
  pub each : (v : ℕ) → weight_of old v ≤ℤ weight_of new v
  pub paid : All (IsPaid steps old new cost) clause

-- models that follow the steps are no lighter by the other weights, and what is lost more
pub record IsCharged (p : Weighted) (steps : List Step) (ws : List ℤ) (lost : ℤ) : Type 0 where
  pub sized : length ws ≡ length p.weights
  pub small : magnitude ws ≤ magnitude p.weights
  pub bound : (m : List Bool) → IsModel p.hard m → FollowsAll m steps → (weight p.weights m +ℤ lost) ≤ℤ weight ws m
