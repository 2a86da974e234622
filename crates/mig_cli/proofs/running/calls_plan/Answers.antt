use Rattle.std.proofs.Common.{refl}
use Rattle.mig_cli.specs.World.{inputs_of}
use Rattle.mig_cli.proofs.RunPlans.{called, names-asked, not-called}
use Rattle.mig_cli.proofs.running.calls_plan.Goals as goal

pub returns-in-Ok-clause-plan : goal.returns-in-Ok-clause-plan
returns-in-Ok-clause-plan g c =
    called (inputs_of g.F.Files g.S.Store c.args.files.now c.args.store.now) (inputs_of g.F.Files g.S.Store c.calls_in.new.files c.args.store.now)
    (inputs_of g.F.Files g.S.Store c.program_plan.new.files c.program_plan.new.store) c.calls_in.ensures.later c.calls_in.ensures.told refl c.args.job.now c.args.file.now c.args.answer.now c.calls_in.ensures.asked
    c.in-Ok.calls.calls c.program_plan.result (rw c.in-Ok.is at c.in_ok-calls.ensures.gave).0 c.program_plan.ensures.asked c.program_plan.ensures.plan

pub returns-in-Ok-clause-asked : goal.returns-in-Ok-clause-asked
returns-in-Ok-clause-asked g c = names-asked _ _ _ c.calls_in.ensures.asked c.args.answer.now _ c.program_plan.ensures.asked

pub returns-in-Err-clause-plan : goal.returns-in-Err-clause-plan
returns-in-Err-clause-plan g c =
    not-called c.args.job.now c.args.file.now c.args.answer.now (inputs_of g.F.Files g.S.Store c.args.files.now c.args.store.now) (inputs_of g.F.Files g.S.Store c.calls_in.new.files c.args.store.now)
    c.in-Err.plan c.calls_in.ensures.asked refl (rw c.in-Err.is at c.in_ok-calls.ensures.refused)
