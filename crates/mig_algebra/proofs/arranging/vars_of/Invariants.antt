use Rattle.std.proofs.Common.{◌≡◌, take}
use Rattle.mig_algebra.specs.Tidied.{vars_of}
use Rattle.mig_algebra.proofs.arranging.vars_of.Given as goal

abbrev pub invariant-loop-slot : goal.invariant-loop-slot
invariant-loop-slot l = l.vars.items ≡ vars_of (take l.slot-index l.slots)
