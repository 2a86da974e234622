use Rattle.std.proofs.Common.{take}
use Rattle.mig_maxsat.specs.Bounds.{ArePaid}
use Rattle.mig_maxsat.proofs.Paying.{Pays}
use Rattle.mig_maxsat.proofs.charging.pay_all.Given as goal

abbrev pub invariant-loop-lit : goal.invariant-loop-lit
invariant-loop-lit l = record {
  pays : Pays l.trail.steps l.clause l.cost l.fn.weights l.weights l.lit-index;
  paid : ArePaid l.trail.steps (take l.lit-index l.clause) l.cost l.fn.weights l.weights;
}
