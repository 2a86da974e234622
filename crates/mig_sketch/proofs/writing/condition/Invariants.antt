use Rattle.std.proofs.Common.{◌≡◌, take, map}
use Rattle.mig_sketch.specs.Imaging.{looked}
use Rattle.mig_sketch.specs.Moved.{cmp_by}
use Rattle.mig_sketch.proofs.writing.condition.Given as goal

abbrev pub invariant-loop-cmps : goal.invariant-loop-cmps
invariant-loop-cmps l = l.cases ≡ map (λ case. map (cmp_by (looked l.images l.tree)) case) (take l.cmps-index l.test.cases)
