use Rattle.std.proofs.Common.{take}
use Rattle.mig_dimacs.specs.Gains.{IsBalanced}
use Rattle.mig_dimacs.proofs.gains.weights_of.Given as goal

abbrev pub invariant-loop-soft : goal.invariant-loop-soft
invariant-loop-soft l = IsBalanced l.problem.hard.vars (take l.soft-index l.problem.soft) l.weights.items
