use Rattle.std.proofs.Common.{◌≡◌, ◌++◌, take, map}
use Rattle.std.specs.Prelude.{filter}
use Rattle.std.specs.List.{flat_map}
use Rattle.mig_trees.specs.Making as spec
use Rattle.mig_trees.specs.Joining as join
use Rattle.mig_trees.specs.Inside as inside
use Rattle.mig_trees.proofs.listing.add_serving.Given as goal

abbrev pub invariant-loop-tables : goal.invariant-loop-tables
invariant-loop-tables l = l.list.items ≡ l.fn.list.items ++ map (join.written l.schema) (flat_map (spec.trees_over l.schema l.count) (filter (inside.serves l.need) (take l.tables-index l.sets)))
