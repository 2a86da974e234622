use Rattle.mig_cli.specs.World.{inputs_of}
use Rattle.mig_cli.proofs.RunPlans.{played-old}
use Rattle.mig_cli.proofs.running.program_plan.Goals as goal

pub returns-in-None-clause-plan : goal.returns-in-None-clause-plan
returns-in-None-clause-plan g c =
    played-old c.args.job.now c.args.calls.now.calls c.args.answer.now (inputs_of g.F.Files g.S.Store c.args.files.now c.args.store.now) (inputs_of g.F.Files g.S.Store c.args.files.now c.played_plan.new.store)
    c.played_plan.result c.in-None.is c.played_plan.ensures.plan
