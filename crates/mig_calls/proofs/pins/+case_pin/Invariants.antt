use Rattle.std.proofs.Common.{length}
use Rattle.mig_calls.proofs.pins.+case_pin.Given as goal

abbrev pub decreases-case_pin : goal.decreases-case_pin
decreases-case_pin l = length l.case.now
