use Rattle.std.proofs.Common.{◌≡◌, take, cond, map}
use Rattle.mig_meaning.specs.Effect.{takes_part, with_value}
use Rattle.mig_meaning.proofs.setting.set_rows.Given as goal

abbrev pub invariant-loop-row : goal.invariant-loop-row
invariant-loop-row l = l.all ≡ map (λ p. cond (takes_part l.tables l.met l.t p) (with_value l.column.column l.value p) p) (take l.row-index l.rows)
