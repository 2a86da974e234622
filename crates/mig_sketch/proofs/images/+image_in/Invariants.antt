use Rattle.std.proofs.Common.{length}
use Rattle.mig_sketch.proofs.images.+image_in.Given as goal

abbrev pub decreases-image_in : goal.decreases-image_in
decreases-image_in l = length l.images.now
