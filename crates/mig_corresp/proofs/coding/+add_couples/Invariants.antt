use Rattle.std.proofs.Common.{length}
use Rattle.mig_corresp.proofs.coding.+add_couples.Given as goal

abbrev pub decreases-add_couples : goal.decreases-add_couples
decreases-add_couples l = length l.others.now
