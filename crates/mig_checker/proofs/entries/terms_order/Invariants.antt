use Rattle.std.proofs.Common.{◌≡◌, drop}
use Rattle.std.specs.Cmp.Lexicographic.{slice_cmp}
use Rattle.mig_algebra.specs.Orders.{term_order}
use Rattle.mig_checker.proofs.entries.terms_order.Given as goal

abbrev pub invariant-loop-i : goal.invariant-loop-i
invariant-loop-i l = slice_cmp term_order l.left l.right ≡ slice_cmp term_order (drop l.i l.left) (drop l.i l.right)
