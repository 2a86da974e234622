use Rattle.std.proofs.Common.{◌≡◌, map, take}
use Rattle.mig_meaning.specs.Rows.{row_in}
use Rattle.mig_calls.proofs.changing.ids_in.Given as goal

abbrev pub invariant-loop-row : goal.invariant-loop-row
invariant-loop-row l = l.ids.items ≡ map (λ e. (row_in l.tables e l.t).id) (take l.row-index l.met)
