use Rattle.std.proofs.Common.{ap₂, ◌∙◌, sym}
use Rattle.std.specs.Cmp.Lexicographic.{slice_cmp}
use Rattle.std.specs.Ordering.{ordering_then}
use Rattle.mig_algebra.specs.Orders.{var_order, lit_order}
use Rattle.mig_algebra.proofs.ListOrder.{any_order, order_left}
use Rattle.mig_algebra.proofs.orders.+lit_order.Goals as goal

pub lit_order-returns-in-Any-Any : goal.lit_order-returns-in-Any-Any
lit_order-returns-in-Any-Any t c =
    let vars = c.list_order-vars.ensures ∙ ap₂ (slice_cmp var_order) c.as_slice.ensures c.as_slice-in-Any-Any.ensures in
    let lits = c.lits_order-lits.ensures ∙ ap₂ (slice_cmp lit_order) c.as_slice-in-Any-Any-2.ensures c.as_slice-in-Any-Any-3.ensures in
    let more = c.then-in-Any-Any.ensures ∙ ap₂ ordering_then vars lits in
    c.then-in-Any-Any-2.ensures
    ∙ ap₂ ordering_then c.cmp-in-Any-Any.ensures more
    ∙ sym (any_order c.in-Any-Any.held c.in-Any-Any.held2 c.in-Any-Any.inner c.in-Any-Any.inner2)
    ∙ sym (ap₂ lit_order c.in-Any-Any.is-0 c.in-Any-Any.is-1)

pub lits_order-returns : goal.lits_order-returns
lits_order-returns t c =
    c.cmp.ensures ∙ sym (c.loop-i.invariant ∙ order_left lit_order _ _ c.min-i-end.result c.loop-i.i c.min-i-end.ensures c.loop-i-test.false c.loop-i.auto.i-end)
