use Rattle.std.proofs.Common.{◌≡◌, ◌<◌, ◌≤◌, ℕ, List, length, get_or}
use Rattle.mig_storage.specs.declared.index.Index.{Index}
use Rattle.mig_storage.specs.declared.slots.Slot.{Slot}
use Rattle.mig_storage.specs.Index.{IsIndex, ChangesAt}
use Rattle.mig_storage.proofs.indexes.follow_each.Given as goal

abbrev pub invariant-loop-i : goal.invariant-loop-i
invariant-loop-i l = record {
  count : length l.indexes.items ≡ l.i-end;
  done : (k : ℕ) (d : Index) → k < l.i → (after : List Slot) → ChangesAt l.place l.row l.slots after → IsIndex after (get_or l.indexes.items k d);
  left : (k : ℕ) (d : Index) → l.i ≤ k → k < length l.indexes.items → IsIndex l.slots (get_or l.indexes.items k d);
}
