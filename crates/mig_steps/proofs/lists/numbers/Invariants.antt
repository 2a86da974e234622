use Rattle.std.proofs.Common.{◌≡◌}
use Rattle.mig_listing.specs.Choices.{numbers}
use Rattle.mig_steps.proofs.lists.numbers.Given as goal

abbrev pub invariant-loop-i : goal.invariant-loop-i
invariant-loop-i l = l.list ≡ numbers l.i
