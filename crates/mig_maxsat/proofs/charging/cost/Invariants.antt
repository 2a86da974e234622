use Rattle.std.proofs.Common.{ℕ, ◌<◌, ◌^◌, ◌≤ℤ◌, pos, get_or}
use Rattle.mig_sat.specs.declared.clauses.SatLit.{SatLit}
use Rattle.mig_maxsat.specs.Bounds.{CostsLit}
use Rattle.mig_maxsat.specs.Losses.{IsLossy}
use Rattle.mig_maxsat.proofs.Leaving.{LosesFirst}
use Rattle.mig_maxsat.proofs.charging.cost.Given as goal

abbrev pub invariant-loop-lit : goal.invariant-loop-lit
invariant-loop-lit l = record {
  most : l.cost ≤ℤ pos (2 ^ 62);
  costs : (k : ℕ) (d : SatLit) → k < l.lit-index → CostsLit l.trail.steps l.weights l.cost (get_or l.clause k d);
  lossy : (k : ℕ) (d : SatLit) → k < l.lit-index → IsLossy l.trail.steps l.weights (get_or l.clause k d);
  loses : LosesFirst l.trail.steps l.clause l.weights l.cost l.lit-index;
}
