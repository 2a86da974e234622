use Rattle.std.proofs.Common.{◌≡◌, drop}
use Rattle.mig_trees.specs.Joining as join
use Rattle.mig_trees.proofs.writing.next_joined.Given as goal

abbrev pub invariant-loop-n : goal.invariant-loop-n
invariant-loop-n l = join.next_joined l.schema l.taken (drop l.n-index l.links) ≡ join.next_joined l.schema l.taken l.links
