use Rattle.std.proofs.Common.{length}
use Rattle.mig_steps.proofs.replacing.+alternatives_at.Given as goal

abbrev pub decreases-alternatives_at : goal.decreases-alternatives_at
decreases-alternatives_at l = length l.path.now
