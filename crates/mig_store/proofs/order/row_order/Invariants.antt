use Rattle.std.proofs.Common.{◌≡◌, drop}
use Rattle.mig_store.specs.Order.{row_order}
use Rattle.mig_store.proofs.order.row_order.Given as goal

abbrev pub invariant-loop-i : goal.invariant-loop-i
invariant-loop-i l = row_order l.left l.right ≡ row_order (drop l.i l.left) (drop l.i l.right)
