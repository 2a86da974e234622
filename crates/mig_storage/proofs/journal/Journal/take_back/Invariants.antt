use Rattle.std.proofs.Common.{◌≡◌, vec_len}
use Rattle.mig_storage.specs.Order.{IsOrdered}
use Rattle.mig_storage.specs.Slots.{undone, state_on}
use Rattle.mig_storage.proofs.journal.Journal.take_back.Given as goal

abbrev pub invariant-loop-entry : goal.invariant-loop-entry
invariant-loop-entry l = record {
  told : state_on (undone l.self-inside.changes.items l.self-inside.shelf) ≡ l.fn.self.start;
  order : IsOrdered (undone l.self-inside.changes.items l.self-inside.shelf);
}

abbrev pub decreases-loop-entry : goal.decreases-loop-entry
decreases-loop-entry l = vec_len l.self-inside.changes
