use Rattle.std.proofs.Common.{sym, subst}
use Rattle.mig_sat.specs.declared.steps.Found.TheVariants.{Conflict, Forced}
use Rattle.mig_sat.specs.Saying.{IsSaid, IsSilent}
use Rattle.mig_sat.proofs.Following.{no_true_literal, unit_holds, clause_got}
use Rattle.mig_sat.proofs.judging.told.Goals as goal

pub returns-in-Falsified-clause-found : goal.returns-in-Falsified-clause-found
returns-in-Falsified-clause-found c = λ m is f.
    no_true_literal m c.args.trail.now.steps c.in_ok-get.field-0.now f c.in-Falsified.ensures (clause_got c.args.cnf.now m c.args.number c.in_ok-get.field-0.now is (sym c.in_ok-get.ensures.value))

pub returns-in-Falsified-clause-said : goal.returns-in-Falsified-clause-said
returns-in-Falsified-clause-said c = subst (λ o. IsSaid c.args.trail.now.steps o Conflict) c.in_ok-get.ensures.value c.in-Falsified.ensures

pub returns-in-Unit-clause-found : goal.returns-in-Unit-clause-found
returns-in-Unit-clause-found c =
    let e = c.in-Unit.ensures in (
      rw (← c.requires.size) e.0,
      e.1.0,
      λ m is f.
          unit_holds m c.args.trail.now.steps c.in_ok-get.field-0.now c.in-Unit.lit f e.1.1 (clause_got c.args.cnf.now m c.args.number c.in_ok-get.field-0.now is (sym c.in_ok-get.ensures.value)),
    )

pub returns-in-Unit-clause-said : goal.returns-in-Unit-clause-said
returns-in-Unit-clause-said c = subst (λ o. IsSaid c.args.trail.now.steps o (Forced c.in-Unit.lit)) c.in_ok-get.ensures.value c.in-Unit.ensures.1

pub returns-in-Open-clause-said : goal.returns-in-Open-clause-said
returns-in-Open-clause-said c = subst (λ o. IsSilent c.args.trail.now.steps o) c.in_ok-get.ensures.value c.in-Open.ensures
