use Rattle.std.proofs.Common.{◌≡◌, ◌-◌, ◌++◌, ◌∷◌, [], length}
use Rattle.mig_trees.specs.Joining as join
use Rattle.mig_trees.proofs.writing.written.Given as goal

abbrev pub invariant-loop : goal.invariant-loop
invariant-loop l = l.more.items ++ join.more_joined (length l.links - l.counter) l.schema l.links l.taken.items ≡ join.more_joined (length l.links) l.schema l.links (l.first ∷ [])
