use Rattle.std.proofs.Common.{◌≡◌, take}
use Rattle.mig_maxsat.specs.Heaviest.{weight}
use Rattle.mig_maxsat.proofs.weighing.weigh.Given as goal

abbrev pub invariant-loop-var : goal.invariant-loop-var
invariant-loop-var l = l.sum ≡ weight (take l.var l.weights) l.values
