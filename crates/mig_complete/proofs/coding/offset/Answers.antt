use Rattle.std.proofs.Common.{arith}
use Rattle.mig_complete.proofs.Sums.{total_take}
use Rattle.mig_complete.proofs.coding.offset.Goals as goal

pub count-requires : goal.count-requires
count-requires c = let le = total_take c.args.hole c.args.sizes.now in omega (arith, le)
