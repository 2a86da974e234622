use Rattle.std.proofs.Common.{◌≡◌}
use Rattle.std.specs.Prelude.{filter}
use Rattle.mig_listing.specs.Choices as spec
use Rattle.mig_trees.specs.Inside as inside
use Rattle.mig_trees.proofs.inside.inside.Given as goal

abbrev pub invariant-loop-n : goal.invariant-loop-n
invariant-loop-n l = l.list.items ≡ filter (inside.is_inside l.schema l.tables) (spec.numbers l.n)
