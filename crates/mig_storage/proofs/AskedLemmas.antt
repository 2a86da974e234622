-- What an index answers.
use Rattle.std.proofs.Common.{◌≡◌, ℕ, zero, suc, ◌<◌, Bool, true, false, List, [], ◌∷◌, get_or, length, Option, Some, None, ap, ◌∙◌, arith}
use Rattle.std.specs.Prelude.{filter}
use Rattle.std.specs.List.Sorted.{IsStrictlySortedBy}
use Rattle.std.specs.Option.{option_map}
use Rattle.std.proofs.lemmas.Bool.{eq-eqb}
use Rattle.mig_schema.specs.declared.values.Value.{Value}
use Rattle.mig_meaning.specs.declared.states.Row.{Row}
use Rattle.mig_meaning.specs.declared.states.Placed.{Placed}
use Rattle.mig_meaning.specs.Rows.{value_at}
use Rattle.mig_meaning.proofs.Bags.{value_eq-true}
use Rattle.mig_storage.specs.declared.index.Index.{Index}
use Rattle.mig_storage.specs.declared.slots.Slot.{Slot}
use Rattle.mig_storage.specs.Index.{IsIndex, entry_cmp, code_of, code_in, is_code}
use Rattle.mig_storage.specs.Slots.{rows_in, no_slot}
use Rattle.mig_storage.proofs.IndexLemmas.{of_value, rows_at, row_passes, passes, looked_up}
use Rattle.mig_storage.proofs.EntryLemmas.{within, rises-at, found-at}

false-true : false ≡ true → ⊥
false-true h = cc

below : (test : Placed → Bool) (slots : List Slot) (p : ℕ) → passes test (get_or slots p no_slot) ≡ true → p < length slots
below test [] p h = absurd (false-true h)
below test (s ∷ slots) zero h = omega arith
below test (s ∷ slots) (suc p) h = let less = below test slots p h in omega (arith, less)

-- a row with a value stands under the value's number
coded : (c : ℕ) (v : Value) (id : ℕ) (o : Option Row) → row_passes (of_value c v) id o ≡ true → is_code (option_map (code_in c) o) (code_of v) ≡ true
coded c v id None h = absurd (false-true h)
coded c v id (Some r) h = eq-eqb (code_in c r) (code_of v) (ap code_of (value_eq-true (value_at (record { id = id; row = r }) c) v h))

-- the rows that an index finds are those with the value
pub asked : (slots : List Slot) (index : Index) (v : Value) → IsIndex slots index → IsStrictlySortedBy entry_cmp index.places.keys → rows_at index.column v slots (filter (within (length slots) (code_of v)) index.places.keys) ≡ filter (of_value index.column v) (rows_in slots)
asked slots index v right sorted =
    let n = length slots in
    let test = of_value index.column v in
    let at : ℕ → Slot = λ p. get_or slots p no_slot in
    looked_up test at slots 0 (filter (within n (code_of v)) index.places.keys) (λ k. ap at (omega arith)) (rises-at n (code_of v) index.places.keys sorted)
    (λ p h k. found-at n (code_of v) p index.places.keys (below test slots p k) (right (code_of v) p ∙ coded index.column v (get_or slots p no_slot).id (get_or slots p no_slot).row k))
