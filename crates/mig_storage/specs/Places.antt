-- Where the row of an id stands.
use Rattle.std.specs.Prelude.{◌≡◌, ℕ, ◌<◌, List, Some, length, slice_index_or}
use Rattle.mig_meaning.specs.declared.states.Row.{Row}
use Rattle.mig_storage.specs.declared.slots.Slot.{Slot}
use Rattle.mig_storage.specs.Slots.{no_slot}

-- the slot at this place has this id, and this row
pub record IsPlaceOf (slots : List Slot) (id place : ℕ) (row : Row) : Type 0 where
  pub within : place < length slots
  pub named : (slice_index_or slots place no_slot).id ≡ id
  pub filled : (slice_index_or slots place no_slot).row ≡ Some row
