use Rattle.std.proofs.Common.{◌≡◌, take}
use Rattle.mig_dimacs.specs.Costs as spec
use Rattle.mig_dimacs.proofs.costs.cost.Given as goal

abbrev pub invariant-loop-item : goal.invariant-loop-item
invariant-loop-item l = l.sum ≡ spec.cost (take l.item-index l.soft) l.values
