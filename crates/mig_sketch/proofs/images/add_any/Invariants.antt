use Rattle.std.proofs.Common.{◌≡◌, ◌++◌, take}
use Rattle.std.specs.Prelude.{filter}
use Rattle.mig_sketch.specs.Imaging.{image_sets}
use Rattle.mig_sketch.specs.Needs.{has_any}
use Rattle.mig_sketch.proofs.images.add_any.Given as goal

abbrev pub invariant-loop-one : goal.invariant-loop-one
invariant-loop-one l = l.sets ≡ l.fn.sets ++ filter has_any (image_sets (take l.one-index l.list))
