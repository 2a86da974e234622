use Rattle.std.proofs.Common.{ap}
use Rattle.mig_store.proofs.Callable.{callable}
use Rattle.mig_store.proofs.Ended.{whole-store}
use Rattle.mig_store.proofs.Played.{answered, answers-named}
use Rattle.mig_cli.specs.Planned as spec
use Rattle.mig_cli.specs.Plans as plans
use Rattle.mig_cli.proofs.RunPlans.{all-stopped}
use Rattle.mig_cli.proofs.running.played_plan.Goals as goal

pub run-requires-clause-callable : goal.run-requires-clause-callable
run-requires-clause-callable g c = callable c.args.program.now c.requires.within

pub answers_text-requires : goal.answers_text-requires
answers_text-requires g c = answers-named c.args.program.now c.args.calls.now.calls c.in-Ok.answers.list c.requires.playable.given c.in-Ok.ensures.queries

pub returns-in_err-answers_text-in-Ok-clause-left : goal.returns-in_err-answers_text-in-Ok-clause-left
returns-in_err-answers_text-in-Ok-clause-left g c = all-stopped _ _ _ _ _ c.in-Ok.ensures.state

pub returns-in_ok-answers_text-in-Ok-clause-plan : goal.returns-in_ok-answers_text-in-Ok-clause-plan
returns-in_ok-answers_text-in-Ok-clause-plan g c =
    let ran = c.in-Ok.ensures in
    let old = g.S.Store.meaning c.args.store.now in
    let text = c.in_ok-answers_text-in-Ok.field-0 in
    let whole = whole-store old (g.S.Store.meaning c.run.new.store) c.in-Ok.answers ran.sound in
    spec.played text (record {
      answered = answered c.args.schema.now c.args.program.now c.args.calls.now.calls old.told c.in-Ok.answers.list text ran.queries ran.answers c.in_ok-answers_text-in-Ok.ensures;
      state = ran.state;
      layout = ran.layout;
      before = whole.0;
      whole = whole.1;
    }) (ap (plans.answered text) c.new.ensures)

pub returns-in_ok-answers_text-in-Ok-clause-left : goal.returns-in_ok-answers_text-in-Ok-clause-left
returns-in_ok-answers_text-in-Ok-clause-left g c = all-stopped _ _ _ _ _ c.in-Ok.ensures.state
