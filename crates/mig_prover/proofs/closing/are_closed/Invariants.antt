use Rattle.std.proofs.Common.{ℕ, ◌<◌}
use Rattle.mig_prover.specs.Closing.{IsClosedAt}
use Rattle.mig_prover.proofs.closing.are_closed.Given as goal

abbrev pub invariant-loop-n : goal.invariant-loop-n
invariant-loop-n l = (k : ℕ) → k < l.n → IsClosedAt l.job l.program l.facts.list l.candidate k
