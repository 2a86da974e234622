-- What an agenda has still to go through.
use Rattle.std.specs.Prelude.{◌≡◌, ℕ, ◌<◌, ◌≤◌, ◌+◌, ◌-◌, ◌*◌, ◌==◌, ◌⊎◌, ◌↔◌, not, if◌then◌else◌, List, [], Option, Some, None, length, slice_get, slice_index_or, All}
use Rattle.mig_sat.specs.declared.clauses.SatLit.{SatLit}
use Rattle.mig_sat.specs.declared.steps.Step.{Step}
use Rattle.mig_sat.specs.declared.steps.Found.{Found}
use Rattle.mig_sat.specs.declared.agenda.Agenda.{Agenda}
use Rattle.mig_sat.specs.Steps.{lit_at}
use Rattle.mig_sat.specs.Saying.{IsSaid, IsSilent}

-- the number of the list of the clauses that hold the literal
abbrev pub list_number : SatLit → ℕ
list_number l = if l.positive then 1 + 2 * l.var + 1 else 1 + 2 * l.var

-- the number of the list of the clauses that hold the opposite literal; 0 without a literal
abbrev pub opposite_list : Option SatLit → ℕ
opposite_list None = 0
opposite_list (Some l) = list_number (record { var = l.var; positive = not l.positive })

-- which list stands at a place of the queue: 0 first, and then for each step, the oldest first, that of the literal that it makes false
abbrev pub list_at : List Step → ℕ → ℕ
list_at steps place = if place == 0 then 0 else opposite_list (lit_at steps (place - 1))

-- the clause of this number stands in the list
abbrev pub IsListed : List (List ℕ) → ℕ → ℕ → Type 0
IsListed lists list number = (index : ℕ) × (slice_get (slice_index_or lists list []) index ≡ Some number)

-- as many lists, and what stood in one still does
pub record IsGrown (old new : List (List ℕ)) : Type 0 where
  pub sized : length new ≡ length old
  pub kept : (list number : ℕ) → IsListed old list number → IsListed new list number

-- the clause stands in the list of each of these literals, where there is such a list
abbrev pub IsListedFor : List (List ℕ) → List SatLit → ℕ → Type 0
IsListedFor lists lits number = All (λ l. list_number l < length lists → IsListed lists (list_number l) number) lits

-- each of so many clauses stands in list 0, and in the list of each of its literals
pub record ListsFirst (count : ℕ) (clauses : List (List SatLit)) (lists : List (List ℕ)) : Type 0 where
  pub all : (number : ℕ) → number < count → 0 < length lists → IsListed lists 0 number
  pub each : (number : ℕ) (clause : List SatLit) → number < count → slice_get clauses number ≡ Some clause → IsListedFor lists clause number

-- the clause stands in the queue, at a place of it that was not gone through, or in the list at the next one from an index on
pub record IsAhead (lists : List (List ℕ)) (queued at : ℕ) (steps : List Step) (number : ℕ) : Type 0 where
  pub place : ℕ
  pub index : ℕ
  pub within : place ≤ length steps
  pub later : (queued < place) ⊎ ((queued ≡ place) × (at ≤ index))
  pub here : slice_get (slice_index_or lists (list_at steps place) []) index ≡ Some number

-- under these steps the clause is still to be looked at
abbrev pub IsPending : Agenda → List Step → ℕ → Type 0
IsPending a steps number = IsAhead a.lists.items a.queued a.at steps number

-- the clauses in the list from one index up to another say nothing
abbrev pub AreSilent : List (List SatLit) → List Step → List ℕ → ℕ → ℕ → Type 0
AreSilent clauses steps list from to = (index number : ℕ) → from ≤ index → index < to → slice_get list index ≡ Some number → IsSilent steps (slice_get clauses number)

-- the clause in the list before the second index says this, and those between nothing
pub record StopsBehind (clauses : List (List SatLit)) (steps : List Step) (list : List ℕ) (from to : ℕ) (found : Found) : Type 0 where
  pub index : ℕ
  pub number : ℕ
  pub least : from ≤ index
  pub behind : to ≡ index + 1
  pub here : slice_get list index ≡ Some number
  pub said : IsSaid steps (slice_get clauses number) found
  pub before : AreSilent clauses steps list from index

-- no clause that was still to be looked at says anything
abbrev pub IsThrough : List (List SatLit) → Agenda → List Step → Type 0
IsThrough clauses a steps = (number : ℕ) → IsPending a steps number → IsSilent steps (slice_get clauses number)

-- a clause says this, and any other that was still to be looked at still is, or says nothing
pub record StopsAt (clauses : List (List SatLit)) (old new : Agenda) (steps : List Step) (found : Found) : Type 0 where
  pub number : ℕ
  pub said : IsSaid steps (slice_get clauses number) found
  pub others : (n : ℕ) → IsPending old steps n → IsPending new steps n ⊎ (IsSilent steps (slice_get clauses n) ⊎ (n ≡ number))

-- where so many steps are left, those are still to be looked at that were, and those in the newest step's list
abbrev pub IsShortened : Agenda → Agenda → ℕ → Type 0
IsShortened old new steps = (left : List Step) (number : ℕ) → length left ≡ steps → IsPending new left number ↔ (IsPending old left number ⊎ IsListed old.lists.items (list_at left steps) number)
