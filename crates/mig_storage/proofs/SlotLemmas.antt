-- What changes of slots make of the rows in them, and how they are undone.
use Rattle.std.proofs.Common.{◌≡◌, ℕ, zero, suc, ◌+◌, ◌-◌, ◌<◌, false, cond, not, List, [], ◌∷◌, ◌++◌, map, set, get_or, take, length, Option, Some, None, refl, sym, ap, ◌∙◌, subst, arith}
use Rattle.std.specs.Prelude.{filter, ◌==◌}
use Rattle.std.proofs.lemmas.Bool.{eq-eqb, ne_eqb, or_from}
use Rattle.std.proofs.lemmas.List.{map-set, set-set, set-get_or, get_or-set_same, length-append, take_at, take_more}
use Rattle.std.proofs.lemmas.List.Elements.{filter_map-append}
use Rattle.std.proofs.lemmas.List.Folds.{list_any-append}
use Rattle.mig_schema.specs.declared.tables.Schema.{Schema}
use Rattle.mig_schema.specs.declared.tables.Table.{Table}
use Rattle.mig_schema.specs.declared.values.Value.{Value}
use Rattle.mig_base.specs.Lists.{numbered}
use Rattle.mig_meaning.specs.declared.states.Row.{Row}
use Rattle.mig_meaning.specs.declared.states.Placed.{Placed}
use Rattle.mig_meaning.specs.Effect.{with_row, with_value}
use Rattle.mig_meaning.specs.Lists.{Each}
use Rattle.mig_meaning.specs.Rows.{empty_state, rows_of}
use Rattle.mig_meaning.specs.States.{Rising}
use Rattle.mig_storage.specs.declared.slots.Slot.{Slot}
use Rattle.mig_storage.specs.declared.undo.Undo.{Undo}
use Rattle.mig_storage.specs.declared.undo.Undo.TheVariants.{Added, Changed}
use Rattle.mig_storage.specs.Changes.{changed_at, removed, written, has_id}
use Rattle.mig_storage.specs.Places.{IsPlaceOf}
use Rattle.mig_storage.specs.Slots.{Shelf, placed_in, rows_in, state_on, empty_shelf, slots_at, with_slots, with_new, no_slot, with_row_at, undo, undone}
use Rattle.mig_storage.proofs.Numbered.{changed-set}

-- ---- rows of a table
at-map : (tables : List (List Slot)) (t : ℕ) → get_or (map rows_in tables) t [] ≡ rows_in (get_or tables t [])
at-map [] t = refl
at-map (x ∷ xs) zero = refl
at-map (x ∷ xs) (suc t) = at-map xs t

-- the rows of a table are those in its slots
pub rows-on : (shelf : Shelf) (t : ℕ) → rows_of (state_on shelf) t ≡ rows_in (slots_at shelf t)
rows-on shelf t = at-map shelf.tables t

-- other slots for a table change its rows alone
tables-set : (shelf : Shelf) (t : ℕ) (slots : List Slot) (change : List Placed → List Placed) → rows_in slots ≡ change (rows_in (slots_at shelf t)) → numbered (λ n (rows : List Placed). cond (n == t) (change rows) rows) 0 (map rows_in shelf.tables) ≡ map rows_in (set shelf.tables t slots)
tables-set shelf t slots change h =
    changed-set change t (map rows_in shelf.tables) (rows_in slots) [] (h ∙ ap change (sym (rows-on shelf t))) ∙ sym (map-set rows_in shelf.tables t slots)

pub state-changed : (shelf : Shelf) (t : ℕ) (slots : List Slot) (change : List Placed → List Placed) → rows_in slots ≡ change (rows_in (slots_at shelf t)) → state_on (with_slots shelf t slots) ≡ changed_at t change (state_on shelf)
state-changed shelf t slots change h = ap (λ (ts : List (List Placed)). record { tables = ts; next = shelf.next }) (sym (tables-set shelf t slots change h))

-- ---- a new row
pub state-new : (shelf : Shelf) (t : ℕ) (row : Row) → state_on (with_new shelf t row) ≡ with_row (state_on shelf) t row.values
state-new shelf t row =
    let new : Placed = record { id = shelf.next; row = row } in
    let slot : Slot = record { id = shelf.next; row = Some row } in
    ap (λ (ts : List (List Placed)). record { tables = ts; next = shelf.next + 1 })
    (sym (tables-set shelf t (slots_at shelf t ++ slot ∷ []) (λ rows. rows ++ new ∷ []) (filter_map-append placed_in (slots_at shelf t) (slot ∷ []))))

take-front : (xs : List Slot) (x : Slot) → take (length (xs ++ x ∷ []) - 1) (xs ++ x ∷ []) ≡ xs
take-front xs x = take_at xs (x ∷ []) (length (xs ++ x ∷ []) - 1) (omega (arith, length-append xs (x ∷ [])))

pub undo-new : (shelf : Shelf) (t : ℕ) (row : Row) → t < length shelf.tables → undo (Added t) (with_new shelf t row) ≡ shelf
undo-new shelf t row h =
    let slot : Slot = record { id = shelf.next; row = Some row } in
    let new : List Slot = slots_at shelf t ++ slot ∷ [] in
    let cut : take (length (get_or (set shelf.tables t new) t []) - 1) (get_or (set shelf.tables t new) t []) ≡ slots_at shelf t = ap (λ (ys : List Slot). take (length ys - 1) ys) (get_or-set_same shelf.tables t new [] h) ∙ take-front (slots_at shelf t) slot in
    let tables : set (set shelf.tables t new) t (take (length (get_or (set shelf.tables t new) t []) - 1) (get_or (set shelf.tables t new) t [])) ≡ shelf.tables = ap (set (set shelf.tables t new) t) cut ∙ (set-set shelf.tables t new (slots_at shelf t) ∙ set-get_or shelf.tables t []) in
    let next : shelf.next + 1 - 1 ≡ shelf.next = omega arith in
    ap (λ (ts : List (List Slot)). record { tables = ts; next = shelf.next + 1 - 1 }) tables ∙ ap (λ n. record { tables = shelf.tables; next = n }) next

-- ---- another row in a slot
-- what holds of the rows in slots holds of the row at a place
row-at : (P : Placed → Type 0) (slots : List Slot) (place : ℕ) (r : Row) → Each P (rows_in slots) → (get_or slots place no_slot).row ≡ Some r → P (record { id = (get_or slots place no_slot).id; row = r })
row-at P [] place r a e = absurd (none r e)
  where
    none : (q : Row) → ◌≡◌ {A = Option Row} None (Some q) → ⊥
    none q h = cc
row-at P (s ∷ slots) zero r a e =
    let rows : rows_in (s ∷ slots) ≡ record { id = s.id; row = r } ∷ rows_in slots = rw e refl in
    (subst (Each P) rows a).0
row-at P (s ∷ slots) (suc place) r a e = row-at P slots place r (later s.row a) e
  where
    later : (o : Option Row) → Each P (rows_in (record { id = s.id; row = o } ∷ slots)) → Each P (rows_in slots)
    later None b = b
    later (Some q) b = b.1

filter-none : (id : ℕ) (rows : List Placed) → Each (λ (q : Placed). id < q.id) rows → filter (λ (p : Placed). not (p.id == id)) rows ≡ rows
filter-none id [] a = refl
filter-none id (p ∷ rows) a = rw (ne_eqb p.id id (λ e. omega (arith, a.0, e))) (ap (λ ps. p ∷ ps) (filter-none id rows a.1))

abbrev one_written : (id c : ℕ) → Value → Placed → Placed
one_written id c v p = cond (p.id == id) (with_value c v p) p

map-none : (id c : ℕ) (v : Value) (rows : List Placed) → Each (λ (q : Placed). id < q.id) rows → map (one_written id c v) rows ≡ rows
map-none id c v [] a = refl
map-none id c v (p ∷ rows) a = rw (ne_eqb p.id id (λ e. omega (arith, a.0, e))) (ap (λ ps. p ∷ ps) (map-none id c v rows a.1))

no_row_there : (r : Row) → ◌≡◌ {A = Option Row} None (Some r) → ⊥
no_row_there r e = cc

-- emptying the slot of an id takes its row out
pub emptied : (slots : List Slot) (id place : ℕ) (r : Row) → Rising (rows_in slots) → (get_or slots place no_slot).id ≡ id → (get_or slots place no_slot).row ≡ Some r → rows_in (with_row_at place None slots) ≡ filter (λ (p : Placed). not (p.id == id)) (rows_in slots)
emptied [] id place r h n e = absurd (no_row_there r e)
emptied (s ∷ slots) id zero r h n e =
    let rows : rows_in (s ∷ slots) ≡ record { id = s.id; row = r } ∷ rows_in slots = rw e refl in
    let above : Each (λ (q : Placed). s.id < q.id) (rows_in slots) = (subst Rising rows h).0 in
    rw (rows, eq-eqb s.id id n) (sym (filter-none id (rows_in slots) (subst (λ m. Each (λ (q : Placed). m < q.id) (rows_in slots)) n above)))
emptied (s ∷ slots) id (suc place) r h n e = go s.row (λ k. emptied slots id place r k n e) h
  where
    go : (o : Option Row) → (Rising (rows_in slots) → rows_in (with_row_at place None slots) ≡ filter (λ (p : Placed). not (p.id == id)) (rows_in slots)) → Rising (rows_in (record { id = s.id; row = o } ∷ slots)) → rows_in (record { id = s.id; row = o } ∷ with_row_at place None slots) ≡ filter (λ (p : Placed). not (p.id == id)) (rows_in (record { id = s.id; row = o } ∷ slots))
    go None ih k = ih k
    go (Some q) ih k =
        let less : s.id < (get_or slots place no_slot).id = row-at (λ (p : Placed). s.id < p.id) slots place r k.0 e in
        rw (ne_eqb s.id id (λ d. omega (arith, less, n, d))) (ap (λ ps. record { id = s.id; row = q } ∷ ps) (ih k.1))

-- a row with a value in a column, in the slot of its id
pub rewritten : (slots : List Slot) (id place c : ℕ) (v : Value) (r new : Row) → Rising (rows_in slots) → (get_or slots place no_slot).id ≡ id → (get_or slots place no_slot).row ≡ Some r → new.values ≡ numbered (λ n (x : Value). cond (n == c) v x) 0 r.values → rows_in (with_row_at place (Some new) slots) ≡ map (one_written id c v) (rows_in slots)
rewritten [] id place c v r new h n e is = absurd (no_row_there r e)
rewritten (s ∷ slots) id zero c v r new h n e is =
    let rows : rows_in (s ∷ slots) ≡ record { id = s.id; row = r } ∷ rows_in slots = rw e refl in
    let above : Each (λ (q : Placed). s.id < q.id) (rows_in slots) = (subst Rising rows h).0 in
    let first : Placed = record { id = s.id; row = record { values = numbered (λ m (x : Value). cond (m == c) v x) 0 r.values } } in
    rw (rows, eq-eqb s.id id n)
    (ap (λ (vs : List Value). record { id = s.id; row = record { values = vs } } ∷ rows_in slots) is
    ∙ ap (λ ps. first ∷ ps) (sym (map-none id c v (rows_in slots) (subst (λ m. Each (λ (q : Placed). m < q.id) (rows_in slots)) n above))))
rewritten (s ∷ slots) id (suc place) c v r new h n e is = go s.row (λ k. rewritten slots id place c v r new k n e is) h
  where
    go : (o : Option Row) → (Rising (rows_in slots) → rows_in (with_row_at place (Some new) slots) ≡ map (one_written id c v) (rows_in slots)) → Rising (rows_in (record { id = s.id; row = o } ∷ slots)) → rows_in (record { id = s.id; row = o } ∷ with_row_at place (Some new) slots) ≡ map (one_written id c v) (rows_in (record { id = s.id; row = o } ∷ slots))
    go None ih k = ih k
    go (Some q) ih k =
        let less : s.id < (get_or slots place no_slot).id = row-at (λ (p : Placed). s.id < p.id) slots place r k.0 e in
        rw (ne_eqb s.id id (λ d. omega (arith, less, n, d))) (ap (λ ps. record { id = s.id; row = q } ∷ ps) (ih k.1))

pub undo-changed : (shelf : Shelf) (t place : ℕ) (old : Row) (new : Option Row) → t < length shelf.tables → place < length (slots_at shelf t) → (get_or (slots_at shelf t) place no_slot).row ≡ Some old → undo (Changed t place old) (with_slots shelf t (with_row_at place new (slots_at shelf t))) ≡ shelf
undo-changed shelf t place old new h within is =
    let slots : List Slot = slots_at shelf t in
    let s : Slot = get_or slots place no_slot in
    let now : Slot = record { id = s.id; row = new } in
    let here : get_or (set shelf.tables t (set slots place now)) t [] ≡ set slots place now = get_or-set_same shelf.tables t (set slots place now) [] h in
    let slot : get_or (set slots place now) place no_slot ≡ now = get_or-set_same slots place now no_slot within in
    let put : set slots place (record { id = s.id; row = Some old }) ≡ slots = ap (λ (o : Option Row). set slots place (record { id = s.id; row = o })) (sym is) ∙ set-get_or slots place no_slot in
    let back : with_row_at place (Some old) (set slots place now) ≡ slots =
    ap (λ (x : Slot). set (set slots place now) place (record { id = x.id; row = Some old })) slot ∙ (set-set slots place now (record { id = s.id; row = Some old }) ∙ put) in
    ap (λ (ts : List (List Slot)). record { tables = ts; next = shelf.next })
    (ap (λ (ys : List Slot). set (set shelf.tables t (set slots place now)) t (with_row_at place (Some old) ys)) here
    ∙ (ap (set (set shelf.tables t (set slots place now)) t) back ∙ (set-set shelf.tables t (set slots place now) slots ∙ set-get_or shelf.tables t [])))

-- ---- changes undone
-- what is undone last was done first
pub undone-push : (us : List Undo) (u : Undo) (shelf : Shelf) → undone (us ++ u ∷ []) shelf ≡ undone us (undo u shelf)
undone-push [] u shelf = refl
undone-push (w ∷ us) u shelf = ap (undo w) (undone-push us u shelf)

-- ---- one slot more
pub rows-next : (slots : List Slot) (i : ℕ) (s : Slot) → i < length slots → s ≡ get_or slots i s → rows_in (take (i + 1) slots) ≡ rows_in (take i slots) ++ rows_in (s ∷ [])
rows-next slots i s h is = ap rows_in (take_more slots i s h ∙ ap (λ y. take i slots ++ y ∷ []) (sym is)) ∙ filter_map-append placed_in (take i slots) (s ∷ [])

pub absent-next : (slots : List Slot) (i id : ℕ) (s : Slot) → i < length slots → s ≡ get_or slots i s → has_id id (rows_in (take i slots)) ≡ false → has_id id (rows_in (s ∷ [])) ≡ false → has_id id (rows_in (take (i + 1) slots)) ≡ false
absent-next slots i id s h is before here =
    ap (has_id id) (rows-next slots i s h is) ∙ list_any-append (λ (p : Placed). p.id == id) (rows_in (take i slots)) (rows_in (s ∷ [])) ∙ or_from _ _ before here

-- ---- changes of a table
pub state-removed : (shelf : Shelf) (t id place : ℕ) (row : Row) → IsPlaceOf (slots_at shelf t) id place row → Rising (rows_of (state_on shelf) t) → state_on (with_slots shelf t (with_row_at place None (slots_at shelf t))) ≡ removed t id (state_on shelf)
state-removed shelf t id place row found rising =
    state-changed shelf t (with_row_at place None (slots_at shelf t)) (filter (λ (p : Placed). not (p.id == id)))
    (emptied (slots_at shelf t) id place row (subst Rising (rows-on shelf t) rising) found.named found.filled)

pub state-written : (shelf : Shelf) (t id place c : ℕ) (v : Value) (row new : Row) → IsPlaceOf (slots_at shelf t) id place row → Rising (rows_of (state_on shelf) t) → new.values ≡ numbered (λ n (x : Value). cond (n == c) v x) 0 row.values → state_on (with_slots shelf t (with_row_at place (Some new) (slots_at shelf t))) ≡ written t id c v (state_on shelf)
state-written shelf t id place c v row new found rising is =
    state-changed shelf t (with_row_at place (Some new) (slots_at shelf t)) (map (one_written id c v))
    (rewritten (slots_at shelf t) id place c v row new (subst Rising (rows-on shelf t) rising) found.named found.filled is)

-- ---- no rows
pub state-empty : (schema : Schema) → state_on (empty_shelf schema) ≡ empty_state schema
state-empty schema = ap (λ (ts : List (List Placed)). record { tables = ts; next = 0 }) (go schema.tables)
  where
    go : (ts : List Table) → map rows_in (map {B = List Slot} (λ (t : Table). []) ts) ≡ map {B = List Placed} (λ (t : Table). []) ts
    go [] = refl
    go (t ∷ ts) = ap (λ rest. [] ∷ rest) (go ts)
