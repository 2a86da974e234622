use Rattle.std.proofs.Common.{◌≡◌, ◌+ℤ◌, pos, get_or, set, w64, SFits, to_z, of_z, ap, refl, ◌∙◌, rules}
use Rattle.std.proofs.lemmas.Int.{to_z-of_z}
use Rattle.mig_dimacs.proofs.Balance.{gained_fits}
use Rattle.mig_dimacs.proofs.gains.add.Goals as goal

pub overflow_add-weights : goal.overflow_add-weights
overflow_add-weights c =
    let item : SFits w64 (get_or c.args.weights.now c.args.soft.lit.var (pos 0)) = search rules in
    let more : SFits w64 c.gain.result = search rules in
    rw (to_z-of_z w64 (get_or c.args.weights.now c.args.soft.lit.var (pos 0)) item, to_z-of_z w64 c.gain.result more) (gained_fits c.args.weights.now c.args.soft c.gain.result c.gain.ensures c.requires.range c.requires.fits)

pub returns : goal.returns
returns c =
    let item : SFits w64 (get_or c.args.weights.now c.args.soft.lit.var (pos 0)) = search rules in
    let more : SFits w64 c.gain.result = search rules in
    let fits = gained_fits c.args.weights.now c.args.soft c.gain.result c.gain.ensures c.requires.range c.requires.fits in
    let inner : (to_z w64 (of_z w64 (get_or c.args.weights.now c.args.soft.lit.var (pos 0))) +ℤ to_z w64 (of_z w64 c.gain.result)) ≡ (get_or c.args.weights.now c.args.soft.lit.var (pos 0) +ℤ c.gain.result) = rw (to_z-of_z w64 (get_or c.args.weights.now c.args.soft.lit.var (pos 0)) item, to_z-of_z w64 c.gain.result more) refl in
    let e = ap (λ z. to_z w64 (of_z w64 z)) inner ∙ to_z-of_z w64 (get_or c.args.weights.now c.args.soft.lit.var (pos 0) +ℤ c.gain.result) fits ∙ ap (λ z. get_or c.args.weights.now c.args.soft.lit.var (pos 0) +ℤ z) c.gain.ensures in
    ap (set c.args.weights.now c.args.soft.lit.var) e
