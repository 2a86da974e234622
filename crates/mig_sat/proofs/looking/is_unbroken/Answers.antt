use Rattle.std.proofs.Common.{ℕ, List, get_or, subst, Any, below_more, ◌∙◌}
use Rattle.std.proofs.lemmas.List.{get_or_default}
use Rattle.mig_sat.specs.declared.clauses.SatLit.{SatLit}
use Rattle.mig_sat.specs.Steps.{IsNotFalse}
use Rattle.mig_sat.proofs.Following.{no_true_literal, clause_met}
use Rattle.mig_sat.proofs.looking.is_unbroken.Goals as goal

pub returns-then-is_falsified : goal.returns-then-is_falsified
returns-then-is_falsified c = λ m is f.
    let lt = rw c.as_slice-clause-items.ensures at c.loop-clause-test.true in
    let at = rw c.as_slice-clause-items.ensures at c.clause-item.is in
    no_true_literal m c.args.trail.now.steps c.clause-item.result f c.if-is_falsified.ensures (clause_met c.args.cnf.now m c.loop-clause.clause-index c.clause-item.result is lt at)

pub loop-clause-preserved : goal.loop-clause-preserved
loop-clause-preserved c =
    let lt = rw c.as_slice-clause-items.ensures at c.loop-clause-test.true in
    let at = rw c.as_slice-clause-items.ensures at c.clause-item.is in
    let P : ℕ → Type 0 = λ k. (d : List SatLit) → Any (IsNotFalse c.args.trail.now.steps) (get_or c.args.cnf.now.clauses k d) in
    let here : P c.loop-clause.clause-index = λ d. subst (Any (IsNotFalse c.args.trail.now.steps)) (at ∙ get_or_default c.args.cnf.now.clauses c.loop-clause.clause-index c.clause-item.result d lt) c.if-is_falsified.ensures in
    λ k d h. below_more P c.loop-clause.clause-index (λ j less e. c.loop-clause.invariant j e less) here k h d
