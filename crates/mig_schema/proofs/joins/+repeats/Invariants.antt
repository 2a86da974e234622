use Rattle.std.proofs.Common.{length}
use Rattle.mig_schema.proofs.joins.+repeats.Given as goal

abbrev pub decreases-repeats : goal.decreases-repeats
decreases-repeats l = length l.joined.now
