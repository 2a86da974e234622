use Rattle.std.proofs.Common.{◌≡◌, map, take}
use Rattle.mig_meaning.specs.Told.{rows_told}
use Rattle.mig_store.proofs.writing.in_order.Given as goal

abbrev pub invariant-loop-row : goal.invariant-loop-row
invariant-loop-row l = map (λ r. r.now.values) l.list.items ≡ rows_told (take l.row-index l.rows)
