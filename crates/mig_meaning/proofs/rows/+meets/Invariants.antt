use Rattle.std.proofs.Common.{length}
use Rattle.mig_meaning.proofs.rows.+meets.Given as goal

abbrev pub decreases-meets : goal.decreases-meets
decreases-meets l = length l.joined.now
