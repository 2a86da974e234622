use Rattle.std.proofs.Common.{◌≡◌, map, take}
use Rattle.mig_corresp.specs.Weights.{pair_weight}
use Rattle.mig_corresp.proofs.weighing.weights.Given as goal

abbrev pub invariant-loop-pair : goal.invariant-loop-pair
invariant-loop-pair l = l.list ≡ map (pair_weight l.job) (take l.pair-index l.pairs)
