use Rattle.std.proofs.Common.{◌≡◌, drop}
use Rattle.std.specs.Cmp.Lexicographic.{slice_cmp}
use Rattle.mig_algebra.proofs.ordered.list_order.Given as goal

abbrev pub invariant-loop-i : goal.invariant-loop-i
invariant-loop-i g l = slice_cmp g.T.Ordered.order l.left l.right ≡ slice_cmp g.T.Ordered.order (drop l.i l.left) (drop l.i l.right)
