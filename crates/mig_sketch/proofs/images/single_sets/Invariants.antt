use Rattle.std.proofs.Common.{◌≡◌, take}
use Rattle.std.specs.List.{flat_map}
use Rattle.mig_sketch.specs.Imaging.{single_sets}
use Rattle.mig_sketch.proofs.images.single_sets.Given as goal

abbrev pub invariant-loop-one : goal.invariant-loop-one
invariant-loop-one l = l.sets ≡ flat_map single_sets (take l.one-index l.list)
