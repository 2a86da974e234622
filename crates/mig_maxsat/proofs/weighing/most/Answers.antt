use Rattle.std.proofs.Common.{◌≡◌, ◌<◌, ◌≤◌, ◌≤ℤ◌, ◌+ℤ◌, ◌+◌, pos, take, length, get_or, w64, SFits, to_z, of_z, ap, sym, ◌∙◌, subst, arith, rules}
use Rattle.std.proofs.lemmas.Int.{to_z-of_z}
use Rattle.std.specs.Int.RustNames.{unsigned_abs}
use Rattle.mig_sat.specs.Steps.{value_at}
use Rattle.mig_maxsat.specs.Heaviest.{weight, magnitude}
use Rattle.mig_maxsat.specs.Bounds.{IsMost}
use Rattle.mig_maxsat.specs.Losses.{most_at}
use Rattle.mig_maxsat.proofs.Costly.{most_is_on}
use Rattle.mig_maxsat.proofs.Weights.{most_on}
use Rattle.mig_maxsat.proofs.weighing.most.Goals as goal

pub overflow_add-sum : goal.overflow_add-sum
overflow_add-sum c =
    let item : SFits w64 (get_or c.args.weights.now c.loop-var.var (pos 0)) = search rules in
    let fits : SFits w64 c.most_of-sum.result = search rules in
    let is : IsMost (value_at c.loop-var.var c.args.trail.now.steps) (get_or c.args.weights.now c.loop-var.var (pos 0)) c.most_of-sum.result = subst (λ x. IsMost x (get_or c.args.weights.now c.loop-var.var (pos 0)) c.most_of-sum.result) c.value.ensures (subst (λ w. IsMost c.value.result w c.most_of-sum.result) (to_z-of_z w64 (get_or c.args.weights.now c.loop-var.var (pos 0)) item) c.most_of-sum.ensures.bound) in
    let lt : c.loop-var.var < length c.args.weights.now = omega (arith, c.loop-var-test.true, c.requires.sized) in
    (most_on c.args.weights.now c.args.trail.now.steps c.loop-var.var (to_z w64 c.loop-var.sum-bits) c.most_of-sum.result (to_z w64 c.loop-var.sum-bits +ℤ to_z w64 (of_z w64 c.most_of-sum.result)) lt c.requires.fits is c.loop-var.invariant.bound c.loop-var.invariant.small (ap (λ x. to_z w64 c.loop-var.sum-bits +ℤ x) (to_z-of_z w64 c.most_of-sum.result fits))).2

pub loop-var-preserved : goal.loop-var-preserved
loop-var-preserved c =
    let item : SFits w64 (get_or c.args.weights.now c.loop-var.var (pos 0)) = search rules in
    let fits : SFits w64 c.most_of-sum.result = search rules in
    let is : IsMost (value_at c.loop-var.var c.args.trail.now.steps) (get_or c.args.weights.now c.loop-var.var (pos 0)) c.most_of-sum.result = subst (λ x. IsMost x (get_or c.args.weights.now c.loop-var.var (pos 0)) c.most_of-sum.result) c.value.ensures (subst (λ w. IsMost c.value.result w c.most_of-sum.result) (to_z-of_z w64 (get_or c.args.weights.now c.loop-var.var (pos 0)) item) c.most_of-sum.ensures.bound) in
    let counts : c.most_of-sum.result ≡ most_at (value_at c.loop-var.var c.args.trail.now.steps) (get_or c.args.weights.now c.loop-var.var (pos 0)) = subst (λ x. c.most_of-sum.result ≡ most_at x (get_or c.args.weights.now c.loop-var.var (pos 0))) c.value.ensures (subst (λ w. c.most_of-sum.result ≡ most_at c.value.result w) (to_z-of_z w64 (get_or c.args.weights.now c.loop-var.var (pos 0)) item) c.most_of-sum.ensures.is) in
    let lt : c.loop-var.var < length c.args.weights.now = omega (arith, c.loop-var-test.true, c.requires.sized) in
    let on = most_on c.args.weights.now c.args.trail.now.steps c.loop-var.var (to_z w64 c.loop-var.sum-bits) c.most_of-sum.result (to_z w64 c.loop-var.sum-bits +ℤ to_z w64 (of_z w64 c.most_of-sum.result)) lt c.requires.fits is c.loop-var.invariant.bound c.loop-var.invariant.small (ap (λ x. to_z w64 c.loop-var.sum-bits +ℤ x) (to_z-of_z w64 c.most_of-sum.result fits)) in
    let e = to_z-of_z w64 (to_z w64 c.loop-var.sum-bits +ℤ to_z w64 (of_z w64 c.most_of-sum.result)) on.2 in
    record {
      bound = λ m f. subst (λ x. weight (take (c.loop-var.var + 1) c.args.weights.now) m ≤ℤ x) (sym e) (on.0 m f);
      small = subst (λ x. unsigned_abs x ≤ magnitude (take (c.loop-var.var + 1) c.args.weights.now)) (sym e) on.1;
      is = e ∙ most_is_on c.args.trail.now.steps c.args.weights.now c.loop-var.var (to_z w64 c.loop-var.sum-bits) c.most_of-sum.result (to_z w64 c.loop-var.sum-bits +ℤ to_z w64 (of_z w64 c.most_of-sum.result)) lt c.loop-var.invariant.is counts (ap (λ x. to_z w64 c.loop-var.sum-bits +ℤ x) (to_z-of_z w64 c.most_of-sum.result fits));
    }
