use Rattle.std.proofs.Common.{◌≡◌, ◌<◌, ◌-ℤ◌, pos, length, get_or, w64, SFits, to_z, of_z, ap, ◌∙◌, arith, rules}
use Rattle.std.proofs.lemmas.Int.{to_z-of_z}
use Rattle.std.specs.Int.{int_min}
use Rattle.mig_sat.specs.Steps.{IsNotFalse}
use Rattle.mig_maxsat.proofs.Leaving.{least_loses}
use Rattle.mig_maxsat.proofs.Weights.{turned_fits}
use Rattle.mig_maxsat.proofs.charging.lesser.Goals as goal

pub overflow_sub-weight : goal.overflow_sub-weight
overflow_sub-weight c =
    let item : SFits w64 (get_or c.args.weights.now c.args.lit.var (pos 0)) = search rules in
    let lt : c.args.lit.var < length c.args.weights.now = omega (arith, c.requires.range, c.requires.sized) in
    rw (to_z-of_z w64 (get_or c.args.weights.now c.args.lit.var (pos 0)) item) (turned_fits c.args.weights.now c.args.lit.var lt c.requires.fits)

pub returns-clause-loses : goal.returns-clause-loses
returns-clause-loses c =
    let item : SFits w64 (get_or c.args.weights.now c.args.lit.var (pos 0)) = search rules in
    let lt : c.args.lit.var < length c.args.weights.now = omega (arith, c.requires.range, c.requires.sized) in
    let fits : SFits w64 c.min.result = search rules in
    let not_false : IsNotFalse c.args.trail.now.steps c.args.lit = search rules in
    let inner : (pos 0 -ℤ to_z w64 (of_z w64 (get_or c.args.weights.now c.args.lit.var (pos 0)))) ≡ (pos 0 -ℤ get_or c.args.weights.now c.args.lit.var (pos 0)) = ap (λ z. pos 0 -ℤ z) (to_z-of_z w64 (get_or c.args.weights.now c.args.lit.var (pos 0)) item) in
    let turned = ap (λ z. to_z w64 (of_z w64 z)) inner ∙ to_z-of_z w64 (pos 0 -ℤ get_or c.args.weights.now c.args.lit.var (pos 0)) (turned_fits c.args.weights.now c.args.lit.var lt c.requires.fits) in
    let least = c.min.ensures.value ∙ (ap (λ k. int_min k (to_z w64 (of_z w64 (pos 0 -ℤ to_z w64 (of_z w64 (get_or c.args.weights.now c.args.lit.var (pos 0))))))) (to_z-of_z w64 c.args.cost c.ranges.cost) ∙ ap (int_min c.args.cost) turned) in
    rw (to_z-of_z w64 c.min.result fits) (least_loses c.args.trail.now.steps c.args.weights.now c.args.lit c.args.cost c.min.result not_false least)
