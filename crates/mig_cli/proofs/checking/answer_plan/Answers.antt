use Rattle.mig_cli.proofs.CheckPlans.{answered, not-answered}
use Rattle.mig_cli.proofs.checking.answer_plan.Goals as goal

pub returns-in-Ok-clause-plan : goal.returns-in-Ok-clause-plan
returns-in-Ok-clause-plan g c = answered _ _ _ _ c.in-Ok.field-0 c.accepted_plan.result (rw c.in-Ok.is at c.in_ok-program_in.ensures.gave) c.accepted_plan.ensures

pub returns-clause-plan : goal.returns-clause-plan
returns-clause-plan g c = not-answered _ _ _ _ c.in-Err.plan (rw c.in-Err.is at c.in_ok-program_in.ensures.refused)
