use Rattle.std.proofs.Common.{◌≡◌, List, [], take, map}
use Rattle.mig_schema.specs.declared.tables.Table.{Table}
use Rattle.mig_storage.specs.declared.slots.Slot.{Slot}
use Rattle.mig_storage.proofs.shelf.Shelf.of_tables.Given as goal

abbrev pub invariant-loop-table : goal.invariant-loop-table
invariant-loop-table l = l.tables.items ≡ map {B = List Slot} (λ (t : Table). []) (take l._table-index l.schema.tables)
