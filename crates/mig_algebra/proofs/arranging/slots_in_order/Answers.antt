use Rattle.std.proofs.Common.{◌∙◌, ap, rules}
use Rattle.std.specs.Ordering.{is_lt}
use Rattle.std.proofs.lemmas.Fn.{always_returns_same}
use Rattle.std.proofs.lemmas.List.Sorted.{ranks_by}
use Rattle.mig_algebra.specs.Sorted.{sorted}
use Rattle.mig_algebra.specs.Tidied.{slot_order}
use Rattle.mig_algebra.proofs.OrderLaws.{slot_total, slot_tie}
use Rattle.mig_algebra.proofs.SortedLaws.{sorted_is}
use Rattle.mig_algebra.proofs.arranging.slots_in_order.Goals as goal

pub returns : goal.returns
returns c =
    let by_order = c.sort_unstable_by.ensures.sorted (λ a b. is_lt (slot_order a b)) (ranks_by slot_total (λ s. s)) (always_returns_same _ _ _ (λ a r f k. search rules)) in
    sorted_is slot_order slot_total slot_tie _ _ c.sort_unstable_by.ensures.permutation by_order ∙ ap (sorted slot_order) c.in_ok-list.ensures
