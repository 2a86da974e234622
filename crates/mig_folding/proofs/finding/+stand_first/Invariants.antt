use Rattle.std.proofs.Common.{length}
use Rattle.mig_folding.proofs.finding.+stand_first.Given as goal

abbrev pub decreases-stand_first : goal.decreases-stand_first
decreases-stand_first l = length l.names.now
