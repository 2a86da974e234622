use Rattle.std.proofs.Common.{◌<◌, false, length, get_or, take, w64, arith, sym, subst}
use Rattle.std.proofs.lemmas.Int.{to_z-of_z}
use Rattle.std.proofs.lemmas.List.{get_or_default, take_more, take_all}
use Rattle.mig_maxsat.specs.Bounds.{IsPayment, ArePaid}
use Rattle.mig_maxsat.proofs.Paying.{Pays, pays_next, paid_next}
use Rattle.mig_maxsat.proofs.charging.pay_all.Goals as goal

pub loop-lit-preserved : goal.loop-lit-preserved
loop-lit-preserved c =
    let e = to_z-of_z w64 c.args.cost c.ranges.cost in
    let range : (get_or c.args.clause.now c.loop-lit.lit-index (record { var = 0; positive = false })).var < c.args.trail.now.size = c.requires.range c.loop-lit.lit-index (record { var = 0; positive = false }) c.loop-lit-test.true in
    let within : (get_or c.args.clause.now c.loop-lit.lit-index (record { var = 0; positive = false })).var < length c.loop-lit.weights = omega (arith, range, c.requires.sized, c.loop-lit.invariant.pays.sized) in
    let pays : Pays c.args.trail.now.steps c.args.clause.now c.args.cost c.args.weights.now c.loop-lit.weights c.loop-lit.lit-index = subst (λ k. Pays c.args.trail.now.steps c.args.clause.now k c.args.weights.now c.loop-lit.weights c.loop-lit.lit-index) e c.loop-lit.invariant.pays in
    let paid : ArePaid c.args.trail.now.steps (take c.loop-lit.lit-index c.args.clause.now) c.args.cost c.args.weights.now c.loop-lit.weights = subst (λ k. ArePaid c.args.trail.now.steps (take c.loop-lit.lit-index c.args.clause.now) k c.args.weights.now c.loop-lit.weights) e c.loop-lit.invariant.paid in
    let here : IsPayment c.args.trail.now.steps (get_or c.args.clause.now c.loop-lit.lit-index (record { var = 0; positive = false })) c.args.cost c.loop-lit.weights c.pay.new.weights = subst (λ k. IsPayment c.args.trail.now.steps (get_or c.args.clause.now c.loop-lit.lit-index (record { var = 0; positive = false })) k c.loop-lit.weights c.pay.new.weights) e c.pay.ensures in
    let next = paid_next c.args.trail.now.steps (take c.loop-lit.lit-index c.args.clause.now) (get_or c.args.clause.now c.loop-lit.lit-index (record { var = 0; positive = false })) c.args.cost c.args.weights.now c.loop-lit.weights c.pay.new.weights paid here in
    rw e (record {
      pays = pays_next c.args.trail.now.steps c.args.clause.now c.args.cost c.args.weights.now c.loop-lit.weights c.pay.new.weights c.loop-lit.lit-index (get_or c.args.clause.now c.loop-lit.lit-index (record { var = 0; positive = false })) pays (c.requires.costs c.loop-lit.lit-index (record { var = 0; positive = false }) c.loop-lit-test.true) (λ d. get_or_default c.args.clause.now c.loop-lit.lit-index (record { var = 0; positive = false }) d c.loop-lit-test.true) within c.requires.least here;
      paid = subst (λ ls. ArePaid c.args.trail.now.steps ls c.args.cost c.args.weights.now c.pay.new.weights) (sym (take_more c.args.clause.now c.loop-lit.lit-index (record { var = 0; positive = false }) c.loop-lit-test.true)) next;
    })

pub returns-clause-paid : goal.returns-clause-paid
returns-clause-paid c =
    let e = to_z-of_z w64 c.args.cost c.ranges.cost in
    let whole = take_all c.loop-lit.lit-index c.args.clause.now (omega (arith, c.loop-lit-test.false)) in
    let paid : ArePaid c.args.trail.now.steps (take c.loop-lit.lit-index c.args.clause.now) c.args.cost c.args.weights.now c.loop-lit.weights = subst (λ k. ArePaid c.args.trail.now.steps (take c.loop-lit.lit-index c.args.clause.now) k c.args.weights.now c.loop-lit.weights) e c.loop-lit.invariant.paid in
    subst (λ ls. ArePaid c.args.trail.now.steps ls c.args.cost c.args.weights.now c.loop-lit.weights) whole paid
