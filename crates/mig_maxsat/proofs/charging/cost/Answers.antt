use Rattle.std.proofs.Common.{◌<◌, false, length, get_or, arith, w64, SFits, to_z, rules}
use Rattle.std.proofs.lemmas.Int.{ints, to_z-of_z}
use Rattle.std.proofs.lemmas.List.{get_or_default}
use Rattle.mig_maxsat.proofs.Leaving.{loses_next, lossy_next}
use Rattle.mig_maxsat.proofs.Paying.{costs_next}
use Rattle.mig_maxsat.proofs.charging.cost.Goals as goal

pub loop-lit-preserved : goal.loop-lit-preserved
loop-lit-preserved c =
    let fits : SFits w64 c.in_ok-cost.cost = search rules in
    let least = c.in_ok-cost.ensures.most in
    let before = c.loop-lit.invariant.most in
    let range : (get_or c.args.clause.now c.loop-lit.lit-index (record { var = 0; positive = false })).var < c.args.trail.now.size = c.requires.range c.loop-lit.lit-index (record { var = 0; positive = false }) c.loop-lit-test.true in
    let within : (get_or c.args.clause.now c.loop-lit.lit-index (record { var = 0; positive = false })).var < length c.args.weights.now = omega (arith, range, c.requires.sized) in
    rw (to_z-of_z w64 c.in_ok-cost.cost fits) (record {
      most = omega (arith, ints, least, before);
      costs = costs_next c.args.trail.now.steps c.args.weights.now c.args.clause.now c.loop-lit.lit-index (to_z w64 c.loop-lit.cost-bits) c.in_ok-cost.cost (get_or c.args.clause.now c.loop-lit.lit-index (record { var = 0; positive = false })) c.loop-lit.invariant.costs c.in_ok-cost.ensures.most (λ d. get_or_default c.args.clause.now c.loop-lit.lit-index (record { var = 0; positive = false }) d c.loop-lit-test.true) c.in_ok-cost.ensures.costs;
      lossy = lossy_next c.args.trail.now.steps c.args.weights.now c.args.clause.now c.loop-lit.lit-index (get_or c.args.clause.now c.loop-lit.lit-index (record { var = 0; positive = false })) c.loop-lit.invariant.lossy (λ d. get_or_default c.args.clause.now c.loop-lit.lit-index (record { var = 0; positive = false }) d c.loop-lit-test.true) c.in_ok-cost.ensures.lossy;
      loses = loses_next c.args.trail.now.steps c.args.clause.now c.args.weights.now c.loop-lit.lit-index (to_z w64 c.loop-lit.cost-bits) c.in_ok-cost.cost (get_or c.args.clause.now c.loop-lit.lit-index (record { var = 0; positive = false })) c.loop-lit.invariant.loses c.in_ok-cost.ensures.loses c.in_ok-cost.ensures.costs (λ d. get_or_default c.args.clause.now c.loop-lit.lit-index (record { var = 0; positive = false }) d c.loop-lit-test.true) c.loop-lit-test.true within c.requires.fits;
    })
