use Rattle.std.proofs.Common.{◌≡◌, map, take}
use Rattle.mig_meaning.specs.Rows.{column_in}
use Rattle.mig_meaning.specs.Told.{rows_told}
use Rattle.mig_meaning.proofs.selecting.all_selected.Given as goal

abbrev pub invariant-loop-row : goal.invariant-loop-row
invariant-loop-row l = rows_told l.rows ≡ map (λ e. map (column_in l.tables e) l.columns) (take l.row-index l.met)
