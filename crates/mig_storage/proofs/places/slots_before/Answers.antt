use Rattle.std.proofs.Common.{ltb, ltb-true, ltb-false, arith, rules}
use Rattle.std.proofs.lemmas.List.Sorted.{IsPartitionPoint-from_clause}
use Rattle.mig_storage.specs.declared.slots.Slot.{Slot}
use Rattle.mig_storage.specs.Slots.{no_slot}
use Rattle.mig_storage.proofs.OrderLemmas.{parted-by_id}
use Rattle.mig_storage.proofs.places.slots_before.Goals as goal

pub returns-clause-lower : goal.returns-clause-lower
returns-clause-lower c =
    let point = IsPartitionPoint-from_clause (λ (s : Slot). ltb s.id c.args.id) _ _ c.partition_point.ensures.partitioned (parted-by_id c.args.slots.now c.args.id c.requires) (λ a r q k. search rules) in
    λ k h. ltb-true _ _ (point.0 k no_slot (omega arith) h)

pub returns-clause-upper : goal.returns-clause-upper
returns-clause-upper c =
    let point = IsPartitionPoint-from_clause (λ (s : Slot). ltb s.id c.args.id) _ _ c.partition_point.ensures.partitioned (parted-by_id c.args.slots.now c.args.id c.requires) (λ a r q k. search rules) in
    λ h. ltb-false _ _ (point.1 c.partition_point.result no_slot (omega arith) h)
