use Rattle.std.proofs.Common.{length}
use Rattle.mig_schema.proofs.joins.+leader.Given as goal

abbrev pub decreases-leader : goal.decreases-leader
decreases-leader l = length l.joined.now
