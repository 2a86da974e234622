use Rattle.std.proofs.Common.{◌≡◌, take, map}
use Rattle.mig_sketch.specs.Imaging.{looked}
use Rattle.mig_sketch.specs.Moved.{cmp_by}
use Rattle.mig_sketch.proofs.writing.case.Given as goal

abbrev pub invariant-loop-cmp : goal.invariant-loop-cmp
invariant-loop-cmp l = l.list ≡ map (cmp_by (looked l.images l.tree)) (take l.cmp-index l.cmps)
