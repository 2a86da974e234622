use Rattle.std.proofs.Common.{◌≡◌, map, length}
use Rattle.mig_meaning.specs.Lists.{Each}
use Rattle.mig_storage.specs.Order.{AreSlots}
use Rattle.mig_storage.specs.Slots.{rows_in}
use Rattle.mig_storage.proofs.shelf.Shelf.close_up.Given as goal

abbrev pub invariant-loop-t : goal.invariant-loop-t
invariant-loop-t l = record {
  count : length l.self-inside.tables.items ≡ l.t-end;
  rows : map rows_in l.self-inside.tables.items ≡ map rows_in l.initial.self-inside.tables.items;
  order : Each (AreSlots l.fn.self.next) l.initial.self-inside.tables.items → Each (AreSlots l.fn.self.next) l.self-inside.tables.items;
  next : l.self-inside.next ≡ l.fn.self.next;
}
