use Rattle.std.proofs.Common.{◌∙◌, sym}
use Rattle.mig_algebra.proofs.ListOrder.{order_left}
use Rattle.mig_calls.specs.Order.{value_order}
use Rattle.mig_store.proofs.order.row_order.Goals as goal

pub returns : goal.returns
returns c =
    c.cmp.ensures ∙ sym (c.loop-i.invariant ∙ order_left value_order _ _ c.min-i-end.result c.loop-i.i c.min-i-end.ensures c.loop-i-test.false c.loop-i.auto.i-end)
