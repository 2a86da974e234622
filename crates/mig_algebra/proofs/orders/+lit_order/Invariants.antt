use Rattle.std.proofs.Common.{◌≡◌, drop}
use Rattle.std.specs.Cmp.Lexicographic.{slice_cmp}
use Rattle.mig_algebra.specs.Orders.{lit_order}
use Rattle.mig_algebra.proofs.orders.+lit_order.Given as goal

abbrev pub invariant-lits_order-loop-i : goal.invariant-lits_order-loop-i
invariant-lits_order-loop-i l = slice_cmp lit_order l.left l.right ≡ slice_cmp lit_order (drop l.i l.left) (drop l.i l.right)
