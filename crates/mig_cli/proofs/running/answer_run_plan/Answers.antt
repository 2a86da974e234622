use Rattle.std.proofs.Common.{Some, refl}
use Rattle.mig_cli.specs.World.{inputs_of}
use Rattle.mig_cli.proofs.RunPlans.{answer-playable, answer-within, not-played, played}
use Rattle.mig_cli.proofs.running.answer_run_plan.Goals as goal

pub played_plan-requires-clause-within : goal.played_plan-requires-clause-within
played_plan-requires-clause-within g c = answer-within _ c.args.job.now c.args.answer.now c.in-Ok.program (rw c.in-Ok.is at c.in_ok-program.ensures.gave)

pub played_plan-requires-clause-playable : goal.played_plan-requires-clause-playable
played_plan-requires-clause-playable g c =
    answer-playable _ c.args.job.now c.args.answer.now c.in-Ok.program c.args.calls.now.calls (rw c.in-Ok.is at c.in_ok-program.ensures.gave) c.requires.playable

pub returns-in-Ok-clause-plan : goal.returns-in-Ok-clause-plan
returns-in-Ok-clause-plan g c =
    played c.args.job.now c.args.calls.now.calls (Some c.args.answer.now) (inputs_of g.F.Files g.S.Store c.args.files.now c.args.store.now) (inputs_of g.F.Files g.S.Store c.program_in.new.files c.played_plan.new.store)
    c.args.job.now.target c.in-Ok.program c.played_plan.result (refl, rw c.in-Ok.is at c.in_ok-program.ensures.gave) c.played_plan.ensures.plan

pub returns-in-Err-clause-plan : goal.returns-in-Err-clause-plan
returns-in-Err-clause-plan g c =
    not-played c.args.job.now c.args.calls.now.calls (inputs_of g.F.Files g.S.Store c.args.files.now c.args.store.now) (inputs_of g.F.Files g.S.Store c.program_in.new.files c.args.store.now)
    c.args.answer.now c.in-Err.plan refl (rw c.in-Err.is at c.in_ok-program.ensures.refused)
