use Rattle.mig_spelling.proofs.Columns.{text-columns}
use Rattle.mig_cli.specs.Migrating.{search_options}
use Rattle.mig_cli.proofs.Planned.{migrated, not-migrated}
use Rattle.mig_cli.proofs.migrating.migrated_plan.Goals as goal

pub job_plan-requires-clause-columns : goal.job_plan-requires-clause-columns
job_plan-requires-clause-columns g c = let gave = (rw c.in-Ok.is at c.in_ok-job.ensures.gave).0 in text-columns gave.bytes c.in-Ok.job gave.spells.text

pub returns-in-Ok-clause-plan : goal.returns-in-Ok-clause-plan
returns-in-Ok-clause-plan g c =
    migrated _ _ _ (search_options c.args.options.now) c.in-Ok.job c.job_plan.result (rw c.in-Ok.is at c.in_ok-job.ensures.gave).0 c.job_plan.ensures

pub returns-in-Err-clause-plan : goal.returns-in-Err-clause-plan
returns-in-Err-clause-plan g c = not-migrated _ _ _ (search_options c.args.options.now) c.in-Err.plan (rw c.in-Err.is at c.in_ok-job.ensures.refused)
