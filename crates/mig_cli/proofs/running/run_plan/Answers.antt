use Rattle.std.proofs.Common.{refl}
use Rattle.mig_cli.specs.World.{inputs_of}
use Rattle.mig_cli.proofs.RunPlans.{more-asked, not-run, run}
use Rattle.mig_cli.proofs.running.run_plan.Goals as goal

pub returns-in-Ok-clause-plan : goal.returns-in-Ok-clause-plan
returns-in-Ok-clause-plan g c =
    run c.args.file.now c.args.calls.now c.args.answer.now (inputs_of g.F.Files g.S.Store c.args.files.now c.args.store.now) (inputs_of g.F.Files g.S.Store c.job_in.new.files c.args.store.now)
    (inputs_of g.F.Files g.S.Store c.calls_plan.new.files c.calls_plan.new.store) c.job_in.ensures.later c.job_in.ensures.told refl c.job_in.ensures.asked c.in-Ok.job
    (rw c.in-Ok.is at c.in_ok-job.ensures.gave).0 c.calls_plan.result c.calls_plan.ensures.plan

pub returns-in-Ok-clause-asked : goal.returns-in-Ok-clause-asked
returns-in-Ok-clause-asked g c = more-asked _ _ _ _ c.job_in.ensures.asked _ c.calls_plan.ensures.asked

pub returns-in-Err-clause-plan : goal.returns-in-Err-clause-plan
returns-in-Err-clause-plan g c =
    not-run c.args.file.now c.args.calls.now c.args.answer.now (inputs_of g.F.Files g.S.Store c.args.files.now c.args.store.now) (inputs_of g.F.Files g.S.Store c.job_in.new.files c.args.store.now)
    c.in-Err.plan c.job_in.ensures.asked refl (rw c.in-Err.is at c.in_ok-job.ensures.refused)
