use Rattle.std.proofs.Common.{◌≡◌, ◌+ℤ◌, pos, if◌then◌else◌, get_or, w64, SFits, to_z, of_z, ap, ◌∙◌, rules}
use Rattle.std.proofs.lemmas.Int.{to_z-of_z}
use Rattle.mig_sat.specs.Models.{value_of}
use Rattle.mig_maxsat.proofs.Weights.{counted_on}
use Rattle.mig_maxsat.proofs.weighing.weigh.Goals as goal

pub overflow_add-sum : goal.overflow_add-sum
overflow_add-sum c =
    let item : SFits w64 (get_or c.args.weights.now c.loop-var.var (pos 0)) = search rules in
    let fits : SFits w64 c.counted-sum.result = search rules in
    let is : c.counted-sum.result ≡ (if value_of c.args.values.now c.loop-var.var then get_or c.args.weights.now c.loop-var.var (pos 0) else pos 0) = simp to_z-of_z at c.counted-sum.ensures in
    (counted_on c.args.weights.now c.args.values.now c.loop-var.var (to_z w64 c.loop-var.sum-bits) c.counted-sum.result (to_z w64 c.loop-var.sum-bits +ℤ to_z w64 (of_z w64 c.counted-sum.result)) c.loop-var-test.true c.requires.fits c.loop-var.invariant is (ap (λ x. to_z w64 c.loop-var.sum-bits +ℤ x) (to_z-of_z w64 c.counted-sum.result fits))).1

pub loop-var-preserved : goal.loop-var-preserved
loop-var-preserved c =
    let item : SFits w64 (get_or c.args.weights.now c.loop-var.var (pos 0)) = search rules in
    let fits : SFits w64 c.counted-sum.result = search rules in
    let is : c.counted-sum.result ≡ (if value_of c.args.values.now c.loop-var.var then get_or c.args.weights.now c.loop-var.var (pos 0) else pos 0) = simp to_z-of_z at c.counted-sum.ensures in
    let on = counted_on c.args.weights.now c.args.values.now c.loop-var.var (to_z w64 c.loop-var.sum-bits) c.counted-sum.result (to_z w64 c.loop-var.sum-bits +ℤ to_z w64 (of_z w64 c.counted-sum.result)) c.loop-var-test.true c.requires.fits c.loop-var.invariant is (ap (λ x. to_z w64 c.loop-var.sum-bits +ℤ x) (to_z-of_z w64 c.counted-sum.result fits)) in
    to_z-of_z w64 (to_z w64 c.loop-var.sum-bits +ℤ to_z w64 (of_z w64 c.counted-sum.result)) on.1 ∙ on.0
