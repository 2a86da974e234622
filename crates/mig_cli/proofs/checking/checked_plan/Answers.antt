use Rattle.mig_cli.specs.World.{files_meaning}
use Rattle.mig_cli.proofs.CheckPlans.{checked, not-checked}
use Rattle.mig_cli.proofs.checking.checked_plan.Goals as goal

pub returns-in-Ok-clause-plan : goal.returns-in-Ok-clause-plan
returns-in-Ok-clause-plan g c =
    checked _ _ _ _ (files_meaning g.F.Files c.job_in.new.files) c.in-Ok.job c.answer_plan.result c.job_in.ensures.later c.job_in.ensures.told c.job_in.ensures.asked c.answer_plan.ensures.asked
    (rw c.in-Ok.is at c.in_ok-job.ensures.gave).0 c.answer_plan.ensures.plan

pub returns-in-Err-clause-plan : goal.returns-in-Err-clause-plan
returns-in-Err-clause-plan g c = not-checked _ _ _ _ c.in-Err.plan c.job_in.ensures.asked (rw c.in-Err.is at c.in_ok-job.ensures.refused)
