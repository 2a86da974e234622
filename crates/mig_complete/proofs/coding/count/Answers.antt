use Rattle.std.proofs.Common.{arith}
use Rattle.mig_complete.proofs.Sums.{total_at, total_more}
use Rattle.mig_complete.proofs.coding.count.Goals as goal

pub overflow_add-sum : goal.overflow_add-sum
overflow_add-sum c = let at = total_at c.args.sizes.now c.loop-size.size-index c.loop-size-test.true in omega (arith, at)

pub loop-size-preserved : goal.loop-size-preserved
loop-size-preserved c = let e = total_more c.args.sizes.now c.loop-size.size-index c.loop-size-test.true in omega (arith, e)
