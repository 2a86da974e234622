use Rattle.std.proofs.Common.{length}
use Rattle.mig_unfolding.proofs.inserting.+class_atom.Given as goal

abbrev pub decreases-class_atom : goal.decreases-class_atom
decreases-class_atom l = length l.values.now
