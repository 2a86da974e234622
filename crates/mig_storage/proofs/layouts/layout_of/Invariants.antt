use Rattle.std.proofs.Common.{◌≡◌, take, map}
use Rattle.mig_schema.specs.declared.tables.Column.{Column}
use Rattle.mig_schema.specs.declared.tables.Table.{Table}
use Rattle.mig_storage.proofs.layouts.layout_of.Given as goal

abbrev pub invariant-loop-table : goal.invariant-loop-table
invariant-loop-table l = l.layout ≡ map (λ (t : Table). map (λ (c : Column). c.kind) t.columns) (take l.table-index l.schema.tables)
