use Rattle.std.proofs.Common.{◌+◌, ◌-◌, ◌*◌, ◌<◌, slice_index_or, arith}
use Rattle.mig_base.proofs.Growing.{is_past}
use Rattle.mig_base.proofs.digits.number_within.Goals as goal

pub returns-then-from-next : goal.returns-then-from-next
returns-then-from-next c =
    let next : c.args.most < 10 * c.loop-b.value + (slice_index_or c.args.digits.now c.loop-b.b-index 0 - 48) =
    omega (arith, c.if-from-next.true, c.from.ensures, c.from-in-loop-b.ensures, c.from-in-loop-b-2.ensures, c.saturating_sub.ensures) in
    is_past c.args.most c.loop-b.value c.loop-b.b-index c.args.digits.now (omega (arith, c.loop-b-test.true, c.loop-b.auto)) c.loop-b.invariant.1 next
