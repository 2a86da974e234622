use Rattle.std.proofs.Common.{ℕ, ◌<◌, pos, take, get_or}
use Rattle.std.specs.Prelude.{IfSome, slice_get}
use Rattle.mig_maxsat.specs.Bounds.{IsCharged}
use Rattle.mig_maxsat.specs.Losses.{IsSpent, AreCharged}
use Rattle.mig_maxsat.proofs.charging.charged.Given as goal

abbrev pub invariant-loop-number : goal.invariant-loop-number
invariant-loop-number l = record {
  charged : IsCharged l.problem l.trail.steps l.weights.items l.lost;
  exact : AreCharged l.problem.hard.clauses l.trail.steps (take l.number-index l.numbers) l.problem.weights (pos 0) l.weights.items l.lost;
  spent : (k d : ℕ) → k < l.number-index → IfSome (slice_get l.problem.hard.clauses (get_or l.numbers k d)) (IsSpent l.trail.steps l.weights.items);
}
