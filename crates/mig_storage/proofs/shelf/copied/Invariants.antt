use Rattle.std.proofs.Common.{◌≡◌, take}
use Rattle.mig_storage.proofs.shelf.copied.Given as goal

abbrev pub invariant-loop-slots : goal.invariant-loop-slots
invariant-loop-slots l = l.copies.items ≡ take l.slots-index l.tables
