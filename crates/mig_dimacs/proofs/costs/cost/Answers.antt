use Rattle.std.proofs.Common.{false, arith}
use Rattle.mig_dimacs.proofs.Balance.{cost_within}
use Rattle.mig_dimacs.proofs.costs.cost.Goals as goal

pub overflow_add-sum : goal.overflow_add-sum
overflow_add-sum c =
    let all = cost_within c.args.soft.now c.args.values.now c.loop-item.item-index (record { lit = record { var = 0; positive = false }; weight = 0 }) c.loop-item-test.true in
    omega (arith, c.loop-item.invariant, c.cost_of-sum.ensures, c.requires.fits, all)
