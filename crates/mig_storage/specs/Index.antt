-- What an index of a column keeps: in which slots the rows have which value.
use Rattle.std.specs.Prelude.{◌≡◌, ℕ, ◌+◌, ◌*◌, ◌%◌, ◌^◌, ◌==◌, Bool, false, cond, List, Option, Some, None, slice_index_or, unsigned_abs}
use Rattle.std.specs.BTreeSet.{contains}
use Rattle.std.specs.List.{All, fold}
use Rattle.std.specs.Option.{option_map}
use Rattle.std.specs.Ordering.{nat_cmp, ordering_then}
use Rattle.std.specs.declared.cmp.Ordering.{Ordering}
use Rattle.mig_schema.specs.declared.values.Value.{Value}
use Rattle.mig_schema.specs.declared.values.Value.TheVariants as value
use Rattle.mig_meaning.specs.declared.states.Row.{Row}
use Rattle.mig_meaning.specs.Values.{no_value}
use Rattle.mig_storage.specs.declared.index.Index.{Index}
use Rattle.mig_storage.specs.declared.slots.Slot.{Slot}
use Rattle.mig_storage.specs.Slots.{no_slot}

-- a number for a text; equal texts have one number
abbrev pub text_code : List ℕ → ℕ
text_code bytes = fold (λ code byte. (code * 31 % 2 ^ 64 + byte) % 2 ^ 64) 0 bytes

-- a number for a value; equal values have one number
abbrev pub code_of : Value → ℕ
code_of (value.Int i) = unsigned_abs i
code_of (value.Text t) = text_code t
code_of (value.Key k) = k

-- the number for the value of a row in column c
abbrev pub code_in : ℕ → Row → ℕ
code_in c row = code_of (slice_index_or row.values c no_value)

-- the same of the row at a place, if one is there
abbrev pub code_at : ℕ → List Slot → ℕ → Option ℕ
code_at c slots place = option_map (code_in c) (slice_index_or slots place no_slot).row

abbrev pub is_code : Option ℕ → ℕ → Bool
is_code None code = false
is_code (Some k) code = k == code

-- entries stand in order of their numbers, those of one number in order of their places
abbrev pub entry_cmp : ℕ × ℕ → ℕ × ℕ → Ordering
entry_cmp a b = ordering_then (nat_cmp a.0 b.0) (nat_cmp a.1 b.1)

-- An index has a place under a number exactly where the slot there has a row whose value has this number.
abbrev pub IsIndex : List Slot → Index → Type 0
IsIndex slots index = (code place : ℕ) → contains entry_cmp index.places (code, place) ≡ is_code (code_at index.column slots place) code

abbrev pub AreIndexes : List Slot → List Index → Type 0
AreIndexes slots indexes = All (IsIndex slots) indexes

-- other slots have this row, or none, at a place, and the same rows elsewhere
abbrev pub ChangesAt : ℕ → Option Row → List Slot → List Slot → Type 0
ChangesAt place row old new = (p : ℕ) → (slice_index_or new p no_slot).row ≡ cond (p == place) row (slice_index_or old p no_slot).row
