use Rattle.std.proofs.Common.{◌≡◌}
use Rattle.mig_listing.specs.Choices as spec
use Rattle.mig_trees.proofs.choosing.choices.Given as goal

abbrev pub invariant-loop : goal.invariant-loop
invariant-loop l = l.list.items ≡ spec.choices l.counter l.pool
