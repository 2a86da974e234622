-- The first broken place, and what a check of rules answers.
use Rattle.std.specs.Prelude.{◌≡◌, ℕ, ◌<◌, Bool, true, false, List, [], ◌∷◌, Option, Some, None, Result, Ok, Err, ◌⊎◌, ◌↔◌}
use Rattle.std.specs.Result.{IsOk}
use Rattle.mig_schema.specs.declared.faults.TypeFault.{TypeFault}
use Rattle.mig_schema.specs.declared.faults.TypeFault.TheVariants.{Memory}

-- whether a list of numbers comes before another one, compared from the left
abbrev pub Before : List ℕ → List ℕ → Type 0
Before [] ys = ⊥
Before (x ∷ xs) [] = ⊥
Before (x ∷ xs) (y ∷ ys) = (x < y) ⊎ ((x ≡ y) × Before xs ys)

-- A place is broken, and none before it is. Places stand in the order of their numbers.
pub record IsFirstBroken {P : Type 0} (numbers : P → List ℕ) (broken : P → Bool) (place : P) : Type 0 where
  pub here : broken place ≡ true
  pub before : (other : P) → Before (numbers other) (numbers place) → broken other ≡ false

-- the first broken place, or nothing where none is broken
abbrev pub IsFirst : {P : Type 0} → (P → List ℕ) → (P → Bool) → Option P → Type 0
IsFirst {P} numbers broken None = (place : P) → broken place ≡ false
IsFirst {P} numbers broken (Some place) = IsFirstBroken numbers broken place

-- A check answers Ok exactly where no rule is broken, or that memory ran out.
abbrev pub IsOkWhere : {T : Type 0} → Type 0 → Result T TypeFault → Type 0
IsOkWhere Typed answer = (answer ≡ Err Memory) ⊎ (IsOk answer ↔ Typed)

-- A check answers a fault exactly where that is the first broken place, or that memory ran out.
abbrev pub IsFaultWhere : {T : Type 0} → (TypeFault → List ℕ) → (TypeFault → Bool) → Result T TypeFault → Type 0
IsFaultWhere numbers broken answer = (answer ≡ Err Memory) ⊎ ((fault : TypeFault) → (answer ≡ Err fault) ↔ IsFirstBroken numbers broken fault)
