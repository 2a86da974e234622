use Rattle.std.proofs.Common.{◌≡◌, inr, ap, ◌∙◌, rules}
use Rattle.std.specs.Prelude.{is_some}
use Rattle.std.proofs.lemmas.Fn.{filter_same}
use Rattle.mig_storage.specs.declared.slots.Slot.{Slot}
use Rattle.mig_storage.specs.Order.{full_slots}
use Rattle.mig_storage.proofs.slots.Slots.close_up.Goals as goal

pub returns-then-self-len : goal.returns-then-self-len
returns-then-self-len c =
    let kept : c.retain.new.self.items ≡ full_slots c.self.inside.items.items = filter_same _ (λ (s : Slot). is_some s.row) _ (λ x b f' k. search rules) _ _ c.retain.ensures.filtered in
    inr (kept ∙ ap full_slots c.self.view_is)
