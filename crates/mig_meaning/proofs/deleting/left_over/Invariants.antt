use Rattle.std.proofs.Common.{◌≡◌, take, not}
use Rattle.std.specs.Prelude.{filter}
use Rattle.mig_meaning.specs.Effect.{takes_part}
use Rattle.mig_meaning.proofs.deleting.left_over.Given as goal

abbrev pub invariant-loop-row : goal.invariant-loop-row
invariant-loop-row l = l.left ≡ filter (λ p. not (takes_part l.tables l.met l.t p)) (take l.row-index l.rows)
