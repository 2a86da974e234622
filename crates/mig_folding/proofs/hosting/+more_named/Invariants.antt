use Rattle.std.proofs.Common.{length}
use Rattle.mig_folding.proofs.hosting.+more_named.Given as goal

abbrev pub decreases-more_named : goal.decreases-more_named
decreases-more_named l = length l.named.now
