use Rattle.std.proofs.Common.{◌≡◌, map, take}
use Rattle.mig_meaning.specs.Rows.{column_in}
use Rattle.mig_meaning.proofs.selecting.selected.Given as goal

abbrev pub invariant-loop-column : goal.invariant-loop-column
invariant-loop-column l = l.values ≡ map (column_in l.tables l.row) (take l.column-index l.columns)
