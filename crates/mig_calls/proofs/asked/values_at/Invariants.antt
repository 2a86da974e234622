use Rattle.std.proofs.Common.{◌≡◌, map, take}
use Rattle.mig_meaning.specs.declared.states.Placed.{Placed}
use Rattle.mig_meaning.specs.Rows.{value_at}
use Rattle.mig_calls.proofs.asked.values_at.Given as goal

abbrev pub invariant-loop-row : goal.invariant-loop-row
invariant-loop-row l = l.values.items ≡ map (λ (p : Placed). value_at p l.column) (take l.row-index l.rows)
