use Rattle.std.proofs.Common.{◌≡◌, take}
use Rattle.mig_sketch.specs.Imaging.{image_sets}
use Rattle.mig_sketch.proofs.images.image_sets.Given as goal

abbrev pub invariant-loop-one : goal.invariant-loop-one
invariant-loop-one l = l.sets ≡ image_sets (take l.one-index l.list)
