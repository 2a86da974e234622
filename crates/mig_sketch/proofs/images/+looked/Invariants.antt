use Rattle.std.proofs.Common.{length}
use Rattle.mig_sketch.proofs.images.+looked.Given as goal

abbrev pub decreases-looked : goal.decreases-looked
decreases-looked l = length l.list.now
