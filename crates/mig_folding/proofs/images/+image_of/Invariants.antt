use Rattle.std.proofs.Common.{length}
use Rattle.mig_folding.proofs.images.+image_of.Given as goal

abbrev pub decreases-image_of : goal.decreases-image_of
decreases-image_of l = length l.outs.now
