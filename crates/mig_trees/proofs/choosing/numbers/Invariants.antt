use Rattle.std.proofs.Common.{◌≡◌}
use Rattle.mig_listing.specs.Choices as spec
use Rattle.mig_trees.proofs.choosing.numbers.Given as goal

abbrev pub invariant-loop-i : goal.invariant-loop-i
invariant-loop-i l = l.list.items ≡ spec.numbers l.i
