-- Slots in order stay in order, and what order says of the place of an id.
use Rattle.std.proofs.Common.{◌≡◌, ◌≢◌, ℕ, zero, suc, ◌+◌, ◌<◌, ◌≤◌, ◌⊎◌, inl, inr, Bool, false, List, [], ◌∷◌, ◌++◌, map, set, get_or, length, Option, Some, None, refl, sym, ap, ◌∙◌, subst, arith, ltb}
use Rattle.std.specs.Prelude.{filter, ◌==◌, is_some}
use Rattle.std.specs.List.Sorted.{IsNonDecreasingBy, IsPartitionedBy}
use Rattle.std.proofs.lemmas.Bool.{ne_eqb, or_from}
use Rattle.std.proofs.lemmas.List.{map-set, set-get_or}
use Rattle.std.proofs.lemmas.List.Sorted.{IsPartitionedBy-ltb}
use Rattle.mig_schema.specs.declared.tables.Schema.{Schema}
use Rattle.mig_schema.specs.declared.tables.Table.{Table}
use Rattle.mig_meaning.specs.declared.states.Row.{Row}
use Rattle.mig_meaning.specs.Lists.{Each}
use Rattle.mig_meaning.proofs.Within.{each-weaker, each-append, each-filter, each-get, cond-keeps}
use Rattle.mig_storage.specs.declared.slots.Slot.{Slot}
use Rattle.mig_storage.specs.Changes.{has_id}
use Rattle.mig_storage.specs.Order.{SlotsRise, AreSlots, IsOrdered, full_slots}
use Rattle.mig_storage.specs.Slots.{Shelf, rows_in, slots_at, with_slots, with_new, no_slot, with_row_at, empty_shelf}

-- ---- slots that are changed
each-set : {X : Type 0} (P : X → Type 0) (xs : List X) (i : ℕ) (y : X) → Each P xs → P y → Each P (set xs i y)
each-set P [] i y a h = tt
each-set P (x ∷ xs) zero y a h = (h, a.1)
each-set P (x ∷ xs) (suc i) y a h = (a.0, each-set P xs i y a.1 h)

-- the ids stay where another row, or none, is put in a slot
ids-kept : (R : ℕ → Type 0) (slots : List Slot) (place : ℕ) (row : Option Row) → Each (λ (s : Slot). R s.id) slots → Each (λ (s : Slot). R s.id) (with_row_at place row slots)
ids-kept R [] place row a = tt
ids-kept R (s ∷ slots) zero row a = a
ids-kept R (s ∷ slots) (suc place) row a = (a.0, ids-kept R slots place row a.1)

rise-kept : (slots : List Slot) (place : ℕ) (row : Option Row) → SlotsRise slots → SlotsRise (with_row_at place row slots)
rise-kept [] place row r = tt
rise-kept (s ∷ slots) zero row r = r
rise-kept (s ∷ slots) (suc place) row r = (ids-kept (λ n. s.id < n) slots place row r.0, rise-kept slots place row r.1)

rise-push : (slots : List Slot) (s : Slot) → SlotsRise slots → Each (λ (t : Slot). t.id < s.id) slots → SlotsRise (slots ++ s ∷ [])
rise-push [] s r b = (tt, tt)
rise-push (x ∷ slots) s r b = (each-append (λ (t : Slot). x.id < t.id) slots (s ∷ []) r.0 (b.0, tt), rise-push slots s r.1 b.1)

rise-filter : (keep : Slot → Bool) (slots : List Slot) → SlotsRise slots → SlotsRise (filter keep slots)
rise-filter keep [] r = tt
rise-filter keep (s ∷ slots) r = cond-keeps SlotsRise (keep s) (s ∷ filter keep slots) (filter keep slots) (each-filter (λ (t : Slot). s.id < t.id) keep slots r.0, rise-filter keep slots r.1) (rise-filter keep slots r.1)

pub closed-slots : (next : ℕ) (slots : List Slot) → AreSlots next slots → AreSlots next (full_slots slots)
closed-slots next slots a = record { rise = rise-filter (λ (s : Slot). is_some s.row) slots a.rise; below = each-filter _ (λ (s : Slot). is_some s.row) slots a.below }

-- no row is in an empty slot
pub closed-rows : (slots : List Slot) → rows_in (full_slots slots) ≡ rows_in slots
closed-rows [] = refl
closed-rows (s ∷ slots) = go s.row (closed-rows slots)
  where
    go : (o : Option Row) → rows_in (full_slots slots) ≡ rows_in slots → rows_in (full_slots (record { id = s.id; row = o } ∷ slots)) ≡ rows_in (record { id = s.id; row = o } ∷ slots)
    go None ih = ih
    go (Some r) ih = ap (λ ps. record { id = s.id; row = r } ∷ ps) ih

-- ---- shelves that are changed
pub ordered-at : (shelf : Shelf) (t : ℕ) → IsOrdered shelf → AreSlots shelf.next (slots_at shelf t)
ordered-at shelf t h = each-get (AreSlots shelf.next) shelf.tables t [] h (record { rise = tt; below = tt })

pub ordered-row_at : (shelf : Shelf) (t place : ℕ) (row : Option Row) → IsOrdered shelf → IsOrdered (with_slots shelf t (with_row_at place row (slots_at shelf t)))
ordered-row_at shelf t place row h =
    let a = ordered-at shelf t h in
    each-set (AreSlots shelf.next) shelf.tables t _ h (record {
      rise = rise-kept (slots_at shelf t) place row a.rise;
      below = ids-kept (λ n. n < shelf.next) (slots_at shelf t) place row a.below;
    })

later : (next : ℕ) (slots : List Slot) → AreSlots next slots → AreSlots (next + 1) slots
later next slots a = record { rise = a.rise; below = each-weaker _ _ (λ (s : Slot) h. omega (arith, h)) slots a.below }

pub ordered-new : (shelf : Shelf) (t : ℕ) (row : Row) → IsOrdered shelf → IsOrdered (with_new shelf t row)
ordered-new shelf t row h =
    let a = ordered-at shelf t h in
    let new : Slot = record { id = shelf.next; row = Some row } in
    each-set (AreSlots (shelf.next + 1)) shelf.tables t _ (each-weaker _ _ (later shelf.next) shelf.tables h) (record {
      rise = rise-push (slots_at shelf t) new a.rise a.below;
      below = each-append _ (slots_at shelf t) (new ∷ []) (later shelf.next (slots_at shelf t) a).below (omega arith, tt);
    })

pub ordered-empty : (schema : Schema) → IsOrdered (empty_shelf schema)
ordered-empty schema = go schema.tables
  where
    go : (ts : List Table) → Each (AreSlots 0) (map (λ (t : Table). []) ts)
    go [] = tt
    go (t ∷ ts) = (record { rise = tt; below = tt }, go ts)

-- ---- the place of an id
above-first : (s : Slot) (slots : List Slot) (k : ℕ) (d : Slot) → Each (λ (t : Slot). s.id < t.id) slots → k < length slots → s.id < (get_or slots k d).id
above-first s [] k d a h = absurd (omega (arith, h))
above-first s (t ∷ slots) zero d a h = a.0
above-first s (t ∷ slots) (suc k) d a h = above-first s slots k d a.1 (omega (arith, h))

rise-at : (slots : List Slot) → SlotsRise slots → IsNonDecreasingBy (λ (s : Slot). s.id) slots
rise-at [] r i j d le h = absurd (omega (arith, h))
rise-at (s ∷ slots) r zero zero d le h = omega arith
rise-at (s ∷ slots) r zero (suc j) d le h = let k = above-first s slots j d r.0 (omega (arith, h)) in omega (arith, k)
rise-at (s ∷ slots) r (suc i) zero d le h = absurd (omega (arith, le))
rise-at (s ∷ slots) r (suc i) (suc j) d le h = rise-at slots r.1 i j d (omega (arith, le)) (omega (arith, h))

-- slots in order are parted by an id
pub parted-by_id : (slots : List Slot) (id : ℕ) → SlotsRise slots → IsPartitionedBy (λ (s : Slot). ltb s.id id) slots
parted-by_id slots id r = IsPartitionedBy-ltb (λ (s : Slot). s.id) slots id (rise-at slots r)

-- a slot has no row with another id than its own
other-id : (s : Slot) (slots : List Slot) (id : ℕ) → (s.row ≡ None) ⊎ (s.id ≢ id) → has_id id (rows_in slots) ≡ false → has_id id (rows_in (s ∷ slots)) ≡ false
other-id s slots id (inl e) h = rw e h
other-id s slots id (inr n) h = go s.row
  where
    go : (o : Option Row) → has_id id (rows_in (record { id = s.id; row = o } ∷ slots)) ≡ false
    go None = h
    go (Some r) = or_from (s.id == id) (has_id id (rows_in slots)) (ne_eqb s.id id n) h

above-none : (slots : List Slot) (id : ℕ) → Each (λ (s : Slot). id < s.id) slots → has_id id (rows_in slots) ≡ false
above-none [] id a = refl
above-none (s ∷ slots) id a = other-id s slots id (inr (λ e. omega (arith, a.0, e))) (above-none slots id a.1)

-- no row has an id that the slot at its place doesn't have a row of
pub absent : (slots : List Slot) (id place : ℕ) → SlotsRise slots → ((k : ℕ) → k < place → k < length slots → (get_or slots k no_slot).id < id) → (place < length slots → id ≤ (get_or slots place no_slot).id)
    → (place < length slots → ((get_or slots place no_slot).row ≡ None) ⊎ ((get_or slots place no_slot).id ≢ id)) → has_id id (rows_in slots) ≡ false
absent [] id place r lower upper other = refl
absent (s ∷ slots) id zero r lower upper other =
    let le : id ≤ s.id = upper (omega arith) in
    other-id s slots id (other (omega arith)) (above-none slots id (each-weaker _ _ (λ (t : Slot) h. omega (arith, le, h)) slots r.0))
absent (s ∷ slots) id (suc place) r lower upper other =
    let lt : s.id < id = lower 0 (omega arith) (omega arith) in
    other-id s slots id (inr (λ e. omega (arith, lt, e)))
    (absent slots id place r.1 (λ k h l. lower (suc k) (omega (arith, h)) (omega (arith, l))) (λ l. upper (omega (arith, l))) (λ l. other (omega (arith, l))))

-- ---- a table that is closed up
pub one-closed : (tables : List (List Slot)) (t : ℕ) (old new : List Slot) → t < length tables → old ≡ get_or tables t [] → (new ≡ old) ⊎ (new ≡ full_slots old)
    → (map rows_in (set tables t new) ≡ map rows_in tables) × ((n : ℕ) → Each (AreSlots n) tables → Each (AreSlots n) (set tables t new))
one-closed tables t old new h is (inl e) =
    let same : set tables t new ≡ tables = ap (set tables t) (e ∙ is) ∙ set-get_or tables t [] in
    (ap (map rows_in) same, λ n a. subst (Each (AreSlots n)) (sym same) a)
one-closed tables t old new h is (inr e) = (
  ap (map rows_in) (ap (set tables t) closed) ∙ (map-set rows_in tables t (full_slots here) ∙ (ap (set (map rows_in tables) t) (closed-rows here) ∙ (sym (map-set rows_in tables t here) ∙ ap (map rows_in) (set-get_or tables t [])))),
  λ n a. each-set (AreSlots n) tables t new a (subst (AreSlots n) (sym closed) (closed-slots n here (each-get (AreSlots n) tables t [] a (record { rise = tt; below = tt })))),
)
  where
    here : List Slot
    here = get_or tables t []

    closed : new ≡ full_slots (get_or tables t [])
    closed = e ∙ ap full_slots is
