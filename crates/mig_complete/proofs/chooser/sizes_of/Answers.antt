use Rattle.std.proofs.Common.{arith}
use Rattle.mig_complete.proofs.Sums.{counts_more, count_at}
use Rattle.mig_complete.proofs.chooser.sizes_of.Goals as goal

pub overflow_cast-size : goal.overflow_cast-size
overflow_cast-size c = let le = count_at c.args.holes.now c.loop-hole.hole-index c.hole-item.result c.loop-hole-test.true c.hole-item.is in omega (arith, le, c.len-size.ensures, c.requires)

pub loop-hole-preserved : goal.loop-hole-preserved
loop-hole-preserved c =
    let e = counts_more c.args.holes.now c.loop-hole.hole-index c.hole-item.result c.loop-hole-test.true c.hole-item.is in
    cc (e, c.in_ok-push.ensures.items, c.loop-hole.invariant, c.len-size.ensures)
