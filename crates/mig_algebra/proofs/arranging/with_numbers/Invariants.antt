use Rattle.std.proofs.Common.{◌≡◌, ◌++◌, take}
use Rattle.mig_algebra.specs.Tidied.{numbers_of}
use Rattle.mig_algebra.proofs.arranging.with_numbers.Given as goal

abbrev pub invariant-loop-slot : goal.invariant-loop-slot
invariant-loop-slot l = l.numbers.items ≡ l.old ++ numbers_of (take l.slot-index l.slots)
