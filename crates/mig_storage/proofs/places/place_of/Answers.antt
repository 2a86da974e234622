use Rattle.std.proofs.Common.{◌≡◌, ◌≤◌, false, None, get_or, length, inl, inr, sym, ap, ◌∙◌, arith, rules}
use Rattle.mig_storage.specs.declared.slots.Slot.{Slot}
use Rattle.mig_storage.specs.Changes.{has_id}
use Rattle.mig_storage.specs.Slots.{no_slot, rows_in}
use Rattle.mig_storage.proofs.OrderLemmas.{absent}
use Rattle.mig_storage.proofs.places.place_of.Goals as goal

pub returns-in_err-slot-clause-none : goal.returns-in_err-slot-clause-none
returns-in_err-slot-clause-none c =
    let place = c.slots_before-place.result in
    let past : length c.args.slots.now ≤ c.slots_before-place.result = search rules in
    let none : has_id c.args.id (rows_in c.args.slots.now) ≡ false =
    absent c.args.slots.now c.args.id place c.requires (λ k h l. c.slots_before-place.ensures.lower k h) c.slots_before-place.ensures.upper (λ h. absurd (omega (arith, h, past))) in
    search rules

pub returns-in_err-row-clause-none : goal.returns-in_err-row-clause-none
returns-in_err-row-clause-none c =
    let place = c.slots_before-place.result in
    let here : c.in_ok-slot.slot.now ≡ get_or c.args.slots.now c.slots_before-place.result no_slot = search rules in
    let empty : c.in_ok-slot.slot.now.row ≡ None = search rules in
    let none : has_id c.args.id (rows_in c.args.slots.now) ≡ false =
    absent c.args.slots.now c.args.id place c.requires (λ k h l. c.slots_before-place.ensures.lower k h) c.slots_before-place.ensures.upper (λ h. inl (ap (λ (s : Slot). s.row) (sym here) ∙ empty)) in
    search rules

pub returns-else-slot-id-clause-none : goal.returns-else-slot-id-clause-none
returns-else-slot-id-clause-none c =
    let place = c.slots_before-place.result in
    let here : c.in_ok-slot.slot.now ≡ get_or c.args.slots.now c.slots_before-place.result no_slot = search rules in
    absent c.args.slots.now c.args.id place c.requires (λ k h l. c.slots_before-place.ensures.lower k h) c.slots_before-place.ensures.upper (λ h. inr (λ e. c.if-slot-id.false (ap (λ (s : Slot). s.id) here ∙ e)))
