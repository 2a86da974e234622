use Rattle.std.proofs.Common.{◌+◌, refl}
use Rattle.std.proofs.lemmas.List.FromFn.{map-range_with_len_more}
use Rattle.mig_complete.specs.Coding.{positive}
use Rattle.mig_complete.proofs.coding.one_of.Goals as goal

pub loop-k-preserved : goal.loop-k-preserved
loop-k-preserved c =
    let e = map-range_with_len_more (λ v. positive v) c.args.first c.loop-k.k (c.args.first + c.loop-k.k) refl in
    cc (e, c.in_ok-push.ensures.ok, c.positive.ensures, c.loop-k.invariant)
