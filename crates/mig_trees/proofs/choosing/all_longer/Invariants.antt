use Rattle.std.proofs.Common.{◌≡◌, take}
use Rattle.std.specs.List.{flat_map}
use Rattle.mig_listing.specs.Choices as spec
use Rattle.mig_trees.proofs.choosing.all_longer.Given as goal

abbrev pub invariant-loop-choice : goal.invariant-loop-choice
invariant-loop-choice l = l.list.items ≡ flat_map (spec.longer l.pool) (take l.choice-index l.choices)
