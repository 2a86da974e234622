-- The ids of slots rise, and are below the next id.
use Rattle.std.specs.Prelude.{ℕ, ◌<◌, List, [], ◌∷◌, is_some, filter}
use Rattle.mig_meaning.specs.Lists.{Each}
use Rattle.mig_storage.specs.declared.slots.Slot.{Slot}
use Rattle.mig_storage.specs.declared.undo.Undo.{Undo}
use Rattle.mig_storage.specs.Slots.{Shelf, undone}

-- the ids rise from slot to slot
abbrev pub SlotsRise : List Slot → Type 0
SlotsRise [] = Unit {0}
SlotsRise (s ∷ slots) = Each (λ (t : Slot). s.id < t.id) slots × SlotsRise slots

-- the slots of a table, where this is the next id
pub record AreSlots (next : ℕ) (slots : List Slot) : Type 0 where
  pub rise : SlotsRise slots
  pub below : Each (λ (s : Slot). s.id < next) slots

-- the same of each table
abbrev pub IsOrdered : Shelf → Type 0
IsOrdered shelf = Each (AreSlots shelf.next) shelf.tables

-- a shelf is in order, and was before these changes
pub record StaysOrdered (shelf : Shelf) (changes : List Undo) : Type 0 where
  pub current : IsOrdered shelf
  pub start : IsOrdered (undone changes shelf)

-- the slots that have a row
abbrev pub full_slots : List Slot → List Slot
full_slots slots = filter (λ (s : Slot). is_some s.row) slots
