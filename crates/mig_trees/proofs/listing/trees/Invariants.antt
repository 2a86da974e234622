use Rattle.std.proofs.Common.{◌≡◌, map}
use Rattle.mig_trees.specs.Making as spec
use Rattle.mig_trees.specs.Joining as join
use Rattle.mig_trees.proofs.listing.trees.Given as goal

abbrev pub invariant-loop-count : goal.invariant-loop-count
invariant-loop-count l = l.list.items ≡ map (join.written l.schema) (spec.trees_below l.schema l.need.sets l.count)
