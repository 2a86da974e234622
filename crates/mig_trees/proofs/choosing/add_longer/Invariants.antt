use Rattle.std.proofs.Common.{◌≡◌, ◌++◌, ◌∷◌, [], take, map}
use Rattle.std.specs.Prelude.{filter}
use Rattle.mig_listing.specs.Choices as spec
use Rattle.mig_trees.proofs.choosing.add_longer.Given as goal

abbrev pub invariant-loop-x : goal.invariant-loop-x
invariant-loop-x l = l.list.items ≡ l.fn.list.items ++ map (λ x. l.choice ++ x ∷ []) (filter (spec.is_above l.choice) (take l.x-index l.pool))
