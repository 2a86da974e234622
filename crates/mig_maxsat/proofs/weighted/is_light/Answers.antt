use Rattle.std.proofs.Common.{◌+◌, pos, get_or, w64, SFits, arith, ap, ◌∙◌, rules}
use Rattle.std.specs.Int.RustNames.{unsigned_abs}
use Rattle.std.proofs.lemmas.Int.{to_z-of_z}
use Rattle.mig_maxsat.proofs.Weights.{magnitude_on, magnitude_take}
use Rattle.mig_maxsat.proofs.weighted.is_light.Goals as goal

pub returns-then-size-left : goal.returns-then-size-left
returns-then-size-left c =
    let item : SFits w64 (get_or c.args.weights.now c.loop-weight.weight-index (pos 0)) = search rules in
    let size = c.unsigned_abs-size.ensures.value ∙ ap unsigned_abs (to_z-of_z w64 (get_or c.args.weights.now c.loop-weight.weight-index (pos 0)) item) in
    let more = magnitude_on c.args.weights.now c.loop-weight.weight-index (pos 0) c.loop-weight-test.true in
    let front = magnitude_take (c.loop-weight.weight-index + 1) c.args.weights.now in
    let left = c.loop-weight.invariant.0 in
    let over = c.if-size-left.true in
    ((λ t. cc), (λ lt. absurd (omega (arith, size, more, front, left, over, lt))))

pub loop-weight-preserved : goal.loop-weight-preserved
loop-weight-preserved c =
    let item : SFits w64 (get_or c.args.weights.now c.loop-weight.weight-index (pos 0)) = search rules in
    let size = c.unsigned_abs-size.ensures.value ∙ ap unsigned_abs (to_z-of_z w64 (get_or c.args.weights.now c.loop-weight.weight-index (pos 0)) item) in
    let more = magnitude_on c.args.weights.now c.loop-weight.weight-index (pos 0) c.loop-weight-test.true in
    let left = c.loop-weight.invariant.0 in
    let under = c.if-size-left.false in
    (omega (arith, size, more, left, under), omega (arith, under))
