use Rattle.std.proofs.Common.{◌≡◌, ◌++◌, take, map}
use Rattle.std.specs.Prelude.{filter}
use Rattle.mig_trees.specs.Making as spec
use Rattle.mig_trees.specs.Joining as join
use Rattle.mig_trees.proofs.listing.add_joined.Given as goal

abbrev pub invariant-loop-links : goal.invariant-loop-links
invariant-loop-links l = l.list.items ≡ l.fn.list.items ++ map (join.written l.schema) (map (spec.tree_of l.tables) (filter (spec.is_tree l.schema l.tables) (take l.links-index l.sets)))
