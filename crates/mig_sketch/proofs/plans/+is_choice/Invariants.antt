use Rattle.std.proofs.Common.{length}
use Rattle.mig_sketch.proofs.plans.+is_choice.Given as goal

abbrev pub decreases-is_choice : goal.decreases-is_choice
decreases-is_choice l = length l.holes.now
