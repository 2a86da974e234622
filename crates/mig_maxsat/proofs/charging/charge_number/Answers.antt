use Rattle.std.proofs.Common.{w64, SFits, Any, sym, subst, rules}
use Rattle.std.proofs.lemmas.Int.{to_z-of_z}
use Rattle.std.specs.Prelude.{IfSome}
use Rattle.mig_sat.specs.Models.{HoldsLit}
use Rattle.mig_sat.proofs.Following.{clause_got}
use Rattle.mig_maxsat.specs.Losses.{IsSpent, IsCharge, IsChargeAt}
use Rattle.mig_maxsat.proofs.charging.charge_number.Goals as goal

pub returns-in-Some-clause-charged : goal.returns-in-Some-clause-charged
returns-in-Some-clause-charged c =
    let fits : SFits w64 c.charge.result = search rules in
    rw (to_z-of_z w64 c.charge.result fits) (λ m is f. c.charge.ensures.charged m f (subst (Any (HoldsLit m)) (sym c.as_slice.ensures) (clause_got c.args.problem.now.hard m c.args.number c.in-Some.clause.now is (sym c.in-Some.ensures.value))))

pub returns-in-Some-clause-spent : goal.returns-in-Some-clause-spent
returns-in-Some-clause-spent c = subst (λ o. IfSome o (IsSpent c.args.trail.now.steps c.charge.new.weights)) c.in-Some.ensures.value (subst (IsSpent c.args.trail.now.steps c.charge.new.weights) c.as_slice.ensures c.charge.ensures.spent)

pub returns-in-Some-clause-exact : goal.returns-in-Some-clause-exact
returns-in-Some-clause-exact c =
    let fits : SFits w64 c.charge.result = search rules in
    let exact = subst (λ clause. IsCharge c.args.trail.now.steps c.args.weights.now c.charge.new.weights c.charge.result clause) c.as_slice.ensures c.charge.ensures.exact in
    rw (to_z-of_z w64 c.charge.result fits) (subst (λ o. IsChargeAt c.args.trail.now.steps c.args.weights.now c.charge.new.weights c.charge.result o) c.in-Some.ensures.value exact)
