-- Where one list ends, the shorter is first.
use Rattle.std.proofs.Common.{◌∙◌, sym}
use Rattle.mig_algebra.specs.Orders.{term_order}
use Rattle.mig_algebra.proofs.ListOrder.{order_left}
use Rattle.mig_checker.proofs.entries.terms_order.Goals as goal

pub returns : goal.returns
returns c =
    c.cmp.ensures ∙ sym (c.loop-i.invariant ∙ order_left term_order _ _ c.min-i-end.result c.loop-i.i c.min-i-end.ensures c.loop-i-test.false c.loop-i.auto.i-end)
