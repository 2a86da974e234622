use Rattle.std.proofs.Common.{◌≡◌, take}
use Rattle.mig_storage.specs.Slots.{rows_in}
use Rattle.mig_storage.proofs.journal.copied.Given as goal

abbrev pub invariant-loop-slot : goal.invariant-loop-slot
invariant-loop-slot l = l.rows ≡ rows_in (take l.slot-index l.slots)
