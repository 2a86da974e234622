use Rattle.std.proofs.Common.{◌≡◌, map, take}
use Rattle.mig_meaning.specs.Lists.{place}
use Rattle.mig_algebra.specs.Rename.{renumbered}
use Rattle.mig_algebra.proofs.tidying.tidy_head.Given as goal

abbrev pub invariant-loop-atom : goal.invariant-loop-atom
invariant-loop-atom l = l.tidied.items ≡ map (renumbered (place l.old)) (take l.atom-index l.head)
