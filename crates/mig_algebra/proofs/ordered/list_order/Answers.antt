use Rattle.std.proofs.Common.{◌∙◌, sym}
use Rattle.mig_algebra.proofs.ListOrder.{order_left}
use Rattle.mig_algebra.proofs.ordered.list_order.Goals as goal

pub returns : goal.returns
returns g c =
    c.cmp.ensures ∙ sym (c.loop-i.invariant ∙ order_left g.T.Ordered.order _ _ c.min-i-end.result c.loop-i.i c.min-i-end.ensures c.loop-i-test.false c.loop-i.auto.i-end)
