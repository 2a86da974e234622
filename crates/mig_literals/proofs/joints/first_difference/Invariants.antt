use Rattle.std.proofs.Common.{◌≡◌, drop}
use Rattle.mig_literals.specs.Rejoined.{first_difference}
use Rattle.mig_literals.proofs.joints.first_difference.Given as goal

abbrev pub invariant-loop-at : goal.invariant-loop-at
invariant-loop-at l = first_difference 0 l.left l.right ≡ first_difference l.at (drop l.at l.left) (drop l.at l.right)
