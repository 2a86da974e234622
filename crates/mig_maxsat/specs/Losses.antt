-- Which clauses cost something, what is left of them once they are charged, and when there is room for a heavier model.
use Rattle.std.specs.Prelude.{◌≡◌, ◌⊎◌, ℕ, ◌+◌, ◌^◌, ◌≤ℤ◌, ◌<ℤ◌, ◌+ℤ◌, ◌&&◌, ℤ, pos, int_lt, FitsSigned, Bool, false, List, [], ◌∷◌, Option, Some, None, length, filter, slice_get, slice_index_or, All, Any, IfSome, if◌then◌else◌}
use Rattle.std.specs.Int.{w64}
use Rattle.std.specs.List.{list_all, range_with_len}
use Rattle.mig_sat.specs.declared.clauses.SatLit.{SatLit}
use Rattle.mig_sat.specs.declared.steps.Step.{Step}
use Rattle.mig_sat.specs.declared.steps.Found.{Found}
use Rattle.mig_sat.specs.declared.steps.Found.TheVariants.{Conflict, Forced, Free, Full}
use Rattle.mig_sat.specs.Steps.{value_at, IsFalse, IsNotFalse}
use Rattle.mig_maxsat.specs.declared.weighted.Weighted.{Weighted}
use Rattle.mig_maxsat.specs.Bounds.{weight_of, CostsLit, ArePaid}

-- whether the literal is positive, and its variable of negative weight
abbrev pub is_costly_lit : List ℤ → SatLit → Bool
is_costly_lit ws l = l.positive && int_lt (weight_of ws l.var) (pos 0)

-- whether the clause of this number has only such literals
abbrev pub is_costly : Weighted → ℕ → Bool
is_costly p number = list_all (is_costly_lit p.weights) (slice_index_or p.hard.clauses number [])

-- the numbers of the clauses that cost something, in order
abbrev pub costly_numbers : Weighted → List ℕ
costly_numbers p = filter (is_costly p) (range_with_len 0 (length p.hard.clauses))

-- the steps make the literal true
abbrev pub IsTrue : List Step → SatLit → Type 0
IsTrue steps l = value_at l.var steps ≡ Some l.positive

-- the literal is true, or can be without loss
abbrev pub IsLossless : List Step → List ℤ → SatLit → Type 0
IsLossless steps ws l = IsTrue steps l ⊎ (IsNotFalse steps l × ((l.positive ≡ false) ⊎ (pos 0 ≤ℤ weight_of ws l.var)))

-- it is false, or is true at a loss only
abbrev pub IsLossy : List Step → List ℤ → SatLit → Type 0
IsLossy steps ws l = IsLossless steps ws l → ⊥

-- the literal can be true at this loss
abbrev pub LosesLit : List Step → List ℤ → ℤ → SatLit → Type 0
LosesLit steps ws loss l = IsNotFalse steps l × ((weight_of ws l.var +ℤ loss) ≡ pos 0)

-- a literal can be true at this loss, or all are false and it is the greatest
abbrev pub Loses : List Step → List SatLit → List ℤ → ℤ → Type 0
Loses steps clause ws loss = Any (LosesLit steps ws loss) clause ⊎ (All (IsFalse steps) clause × (loss ≡ pos (2 ^ 62)))

-- nothing is charged where a literal is true or can be without loss; else it is the least loss, which is paid for each literal
abbrev pub IsCharge : List Step → List ℤ → List ℤ → ℤ → List SatLit → Type 0
IsCharge steps old new loss clause = (Any (IsLossless steps old) clause × (new ≡ old) × (loss ≡ pos 0)) ⊎ (All (IsLossy steps old) clause × Loses steps clause old loss × All (CostsLit steps old loss) clause × ArePaid steps clause loss old new)

-- so it is with the clause, if there is one; else nothing is charged
abbrev pub IsChargeAt : List Step → List ℤ → List ℤ → ℤ → Option (List SatLit) → Type 0
IsChargeAt steps old new loss None = (new ≡ old) × (loss ≡ pos 0)
IsChargeAt steps old new loss (Some clause) = IsCharge steps old new loss clause

-- the sum; the first number where the sum is out of range
abbrev pub IsSum : ℤ → ℤ → ℤ → Type 0
IsSum lost more sum = (FitsSigned w64 (lost +ℤ more) × (sum ≡ lost +ℤ more)) ⊎ ((FitsSigned w64 (lost +ℤ more) → ⊥) × (sum ≡ lost))

-- the clauses of these numbers are charged one after the other, from some weights and a loss to others
abbrev pub AreCharged : List (List SatLit) → List Step → List ℕ → List ℤ → ℤ → List ℤ → ℤ → Type 0
AreCharged clauses steps [] old before new lost = (new ≡ old) × (lost ≡ before)
AreCharged clauses steps (n ∷ ns) old before new lost = (mid : List ℤ) × (loss : ℤ) × (sum : ℤ) × IsChargeAt steps old mid loss (slice_get clauses n) × IsSum before loss sum × AreCharged clauses steps ns mid sum new lost

-- nothing is left to charge: a literal is true or can be without loss, or all are false
abbrev pub IsSpent : List Step → List ℤ → List SatLit → Type 0
IsSpent steps ws clause = Any (IsLossless steps ws) clause ⊎ All (IsFalse steps) clause

-- nothing is left to charge in the clauses of these numbers
abbrev pub AreSpent : List (List SatLit) → List Step → List ℤ → List ℕ → Type 0
AreSpent clauses steps ws numbers = All (λ n. IfSome (slice_get clauses n) (IsSpent steps ws)) numbers

-- what a variable weighs that has this value; the most that it can where it has none
abbrev pub most_at : Option Bool → ℤ → ℤ
most_at (Some b) w = if b then w else pos 0
most_at None w = if int_lt w (pos 0) then pos 0 else w

-- the most that the variables from v on can weigh under the steps
abbrev pub most_from : List Step → ℕ → List ℤ → ℤ
most_from steps v [] = pos 0
most_from steps v (w ∷ ws) = most_at (value_at v steps) w +ℤ most_from steps (v + 1) ws

-- where the clauses of these numbers are charged, the most that is left, less what is lost, is more than the floor
pub record LeavesRoom (p : Weighted) (floor : ℤ) (numbers : List ℕ) (steps : List Step) : Type 0 where
  pub weights : List ℤ
  pub lost : ℤ
  pub charged : AreCharged p.hard.clauses steps numbers p.weights (pos 0) weights lost
  pub above : (floor +ℤ lost) <ℤ most_from steps 0 weights

-- there is room for a model that weighs more than the floor, if there is a floor
abbrev pub HasRoom : Weighted → (floor : Option ℤ) → List ℕ → List Step → Type 0
HasRoom p None numbers steps = Unit {0}
HasRoom p (Some floor) numbers steps = LeavesRoom p floor numbers steps

-- so it is where a free variable was found
abbrev pub OnFree : Found → Type 0 → Type 0
OnFree Conflict P = Unit {0}
OnFree (Forced l) P = Unit {0}
OnFree (Free v) P = P
OnFree Full P = Unit {0}
