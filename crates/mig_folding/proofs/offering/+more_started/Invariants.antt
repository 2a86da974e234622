use Rattle.std.proofs.Common.{length}
use Rattle.mig_folding.proofs.offering.+more_started.Given as goal

abbrev pub decreases-more_started : goal.decreases-more_started
decreases-more_started l = length l.front.now
