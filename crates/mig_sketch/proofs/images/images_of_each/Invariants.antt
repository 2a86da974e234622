use Rattle.std.proofs.Common.{◌≡◌, take, map}
use Rattle.mig_sketch.specs.Imaging.{imaged}
use Rattle.mig_sketch.proofs.images.images_of_each.Given as goal

abbrev pub invariant-loop-source : goal.invariant-loop-source
invariant-loop-source l = l.list.items ≡ map (imaged l.targets l.corr) (take l.source-index l.columns)
