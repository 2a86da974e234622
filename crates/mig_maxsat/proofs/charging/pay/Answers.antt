use Rattle.std.proofs.Common.{◌≡◌, ◌<◌, ◌≤ℤ◌, ◌+ℤ◌, pos, length, get_or, set, w64, SFits, to_z, of_z, arith, ap, refl, ◌∙◌, inl, inr, rules}
use Rattle.std.proofs.lemmas.Int.{ints, to_z-of_z}
use Rattle.mig_sat.specs.Steps.{IsNotFalse}
use Rattle.mig_maxsat.proofs.Weights.{cost_fits}
use Rattle.mig_maxsat.proofs.charging.pay.Goals as goal

pub overflow_add-weight : goal.overflow_add-weight
overflow_add-weight c =
    let item : SFits w64 (get_or c.args.weights.now c.args.lit.var (pos 0)) = search rules in
    let lt : c.args.lit.var < length c.args.weights.now = omega (arith, c.requires.range, c.requires.sized) in
    rw (to_z-of_z w64 (get_or c.args.weights.now c.args.lit.var (pos 0)) item, to_z-of_z w64 c.args.cost c.ranges.cost) (cost_fits c.args.weights.now c.args.lit.var c.args.cost lt c.requires.fits c.requires.least c.requires.most)

pub returns-then-weight-le0 : goal.returns-then-weight-le0
returns-then-weight-le0 c =
    let item : SFits w64 (get_or c.args.weights.now c.args.lit.var (pos 0)) = search rules in
    let lt : c.args.lit.var < length c.args.weights.now = omega (arith, c.requires.range, c.requires.sized) in
    let fits = cost_fits c.args.weights.now c.args.lit.var c.args.cost lt c.requires.fits c.requires.least c.requires.most in
    let inner : (to_z w64 (of_z w64 (get_or c.args.weights.now c.args.lit.var (pos 0))) +ℤ to_z w64 (of_z w64 c.args.cost)) ≡ (get_or c.args.weights.now c.args.lit.var (pos 0) +ℤ c.args.cost) = rw (to_z-of_z w64 (get_or c.args.weights.now c.args.lit.var (pos 0)) item, to_z-of_z w64 c.args.cost c.ranges.cost) refl in
    let e = ap (λ z. to_z w64 (of_z w64 z)) inner ∙ to_z-of_z w64 (get_or c.args.weights.now c.args.lit.var (pos 0) +ℤ c.args.cost) fits in
    let not_false : IsNotFalse c.args.trail.now.steps c.args.lit = search rules in
    let le : (get_or c.args.weights.now c.args.lit.var (pos 0) +ℤ c.args.cost) ≤ℤ pos 0 = omega (arith, ints, c.if-weight-le0.true, e) in
    inr (inl (not_false, le, ap (set c.args.weights.now c.args.lit.var) e))
