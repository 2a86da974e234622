use Rattle.std.proofs.Common.{length}
use Rattle.mig_calls.proofs.pins.+first_pin.Given as goal

abbrev pub decreases-first_pin : goal.decreases-first_pin
decreases-first_pin l = length l.tables.now
