use Rattle.std.proofs.Common.{length}
use Rattle.mig_steps.proofs.spots.+spot_in.Given as goal

abbrev pub decreases-spot_in : goal.decreases-spot_in
decreases-spot_in l = length l.path.now
