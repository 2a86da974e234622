use Rattle.std.proofs.Common.{length}
use Rattle.mig_sketch.proofs.values.+class_value.Given as goal

abbrev pub decreases-class_value : goal.decreases-class_value
decreases-class_value l = length l.led.now
