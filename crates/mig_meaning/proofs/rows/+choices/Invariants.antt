use Rattle.std.proofs.Common.{length}
use Rattle.mig_meaning.proofs.rows.+choices.Given as goal

abbrev pub decreases-choices : goal.decreases-choices
decreases-choices l = length l.tables.now
