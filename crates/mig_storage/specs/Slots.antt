-- What stands in the slots of a store in memory, and how its changes are taken back.
use Rattle.std.specs.Prelude.{ℕ, ◌+◌, ◌-◌, List, [], ◌∷◌, ◌++◌, Option, Some, None, length, map, take, slice_set, slice_index_or}
use Rattle.std.specs.List.{filter_map}
use Rattle.std.specs.Option.{option_map}
use Rattle.mig_schema.specs.declared.tables.Schema.{Schema}
use Rattle.mig_schema.specs.declared.tables.Table.{Table}
use Rattle.mig_meaning.specs.declared.states.Row.{Row}
use Rattle.mig_meaning.specs.declared.states.Placed.{Placed}
use Rattle.mig_meaning.specs.declared.states.State.{State}
use Rattle.mig_storage.specs.declared.slots.Slot.{Slot}
use Rattle.mig_storage.specs.declared.undo.Undo.{Undo}
use Rattle.mig_storage.specs.declared.undo.Undo.TheVariants.{Added, Changed}

-- the slots of each table, and the next id
pub record Shelf : Type 0 where
  pub tables : List (List Slot)
  pub next : ℕ

-- the row in a slot, with the slot's id
abbrev pub placed_in : Slot → Option Placed
placed_in slot = option_map (λ (r : Row). record { id = slot.id; row = r }) slot.row

-- the rows in these slots
abbrev pub rows_in : List Slot → List Placed
rows_in slots = filter_map placed_in slots

-- the state that stands on a shelf
abbrev pub state_on : Shelf → State
state_on shelf = record { tables = map rows_in shelf.tables; next = shelf.next }

-- the shelf with no rows, and no tables or those of a schema
abbrev pub no_tables : Shelf
no_tables = record { tables = []; next = 0 }

abbrev pub empty_shelf : Schema → Shelf
empty_shelf schema = record { tables = map (λ (t : Table). []) schema.tables; next = 0 }

-- the slots of table t
abbrev pub slots_at : Shelf → ℕ → List Slot
slots_at shelf t = slice_index_or shelf.tables t []

-- the shelf with other slots for table t
abbrev pub with_slots : Shelf → ℕ → List Slot → Shelf
with_slots shelf t slots = record { tables = slice_set shelf.tables t slots; next = shelf.next }

-- the shelf with a row behind the others of table t, under the next id
abbrev pub with_new : Shelf → ℕ → Row → Shelf
with_new shelf t row = record { tables = slice_set shelf.tables t (slots_at shelf t ++ (record { id = shelf.next; row = Some row }) ∷ []); next = shelf.next + 1 }

-- what stands where a number is out of range
abbrev pub no_slot : Slot
no_slot = record { id = 0; row = None }

-- the slots with another row, or none, at a place
abbrev pub with_row_at : ℕ → Option Row → List Slot → List Slot
with_row_at place row slots = slice_set slots place (record { id = (slice_index_or slots place no_slot).id; row = row })

-- the shelf before the change that an entry stands for
abbrev pub undo : Undo → Shelf → Shelf
undo (Added t) shelf = record { tables = slice_set shelf.tables t (take (length (slots_at shelf t) - 1) (slots_at shelf t)); next = shelf.next - 1 }
undo (Changed t place row) shelf = with_slots shelf t (with_row_at place (Some row) (slots_at shelf t))

-- the shelf before all these changes, of which the newest is the last
abbrev pub undone : List Undo → Shelf → Shelf
undone [] shelf = shelf
undone (u ∷ us) shelf = undo u (undone us shelf)

-- the state before any table is made
abbrev pub no_state : State
no_state = record { tables = []; next = 0 }

-- the state as it is, and as it was at the mark
pub record Held : Type 0 where
  pub current : State
  pub start : State

-- what stands on a shelf, and what stood there before these changes
abbrev pub held : Shelf → List Undo → Held
held shelf changes = record { current = state_on shelf; start = state_on (undone changes shelf) }
