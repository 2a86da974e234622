use Rattle.std.proofs.Common.{◌≡◌, take, map}
use Rattle.mig_schema.specs.declared.tables.Column.{Column}
use Rattle.mig_storage.proofs.layouts.kinds_of.Given as goal

abbrev pub invariant-loop-column : goal.invariant-loop-column
invariant-loop-column l = l.kinds ≡ map (λ (c : Column). c.kind) (take l.column-index l.columns)
