use Rattle.std.proofs.Common.{refl, rules}
use Rattle.mig_store.proofs.Callable.{callable}
use Rattle.mig_store.proofs.Ended.{said-calls, sound-calls, unread-calls, whole-store}
use Rattle.mig_store.proofs.Played.{answered, answers-named}
use Rattle.mig_store.proofs.playing.play.Goals as goal

pub returns-in_err-calls-clause-only_refused : goal.returns-in_err-calls-clause-only_refused
returns-in_err-calls-clause-only_refused g c = λ cause e.
    (unread-calls c.args.program.now c.args.bytes.now c.from_residual.result c.in_err-calls.field-0.0 cause c.in_err-calls.ensures.said (search rules) e, refl)

pub run-requires-clause-callable : goal.run-requires-clause-callable
run-requires-clause-callable g c = callable c.args.program.now c.requires.within

pub returns-in_err-answers-clause-only_refused : goal.returns-in_err-answers-clause-only_refused
returns-in_err-answers-clause-only_refused g c = λ cause e. absurd (sound-calls c.args.program.now c.args.bytes.now c.in_ok-calls.calls cause c.in_ok-calls.ensures.said e)

pub answers_text-requires : goal.answers_text-requires
answers_text-requires g c = answers-named c.args.program.now c.in_ok-calls.calls.calls c.in_ok-answers.answers.list c.in_ok-calls.ensures.sound c.in_ok-answers.ensures.queries

pub returns-in_err-answers_text-clause-only_refused : goal.returns-in_err-answers_text-clause-only_refused
returns-in_err-answers_text-clause-only_refused g c = λ cause e. absurd (sound-calls c.args.program.now c.args.bytes.now c.in_ok-calls.calls cause c.in_ok-calls.ensures.said e)

pub returns-clause-played : goal.returns-clause-played
returns-clause-played g c =
    let p = c.args.program.now in
    let ran = c.in_ok-answers.ensures in
    let old = g.S.Store.meaning c.args.store.now in
    let new = g.S.Store.meaning c.run.new.store in
    let whole = whole-store old new c.in_ok-answers.answers ran.sound in
    record {
      calls = c.in_ok-calls.calls;
      said = said-calls p c.args.bytes.now c.in_ok-calls.calls c.in_ok-calls.ensures.said;
      answered = answered c.args.schema.now p c.in_ok-calls.calls.calls old.told c.in_ok-answers.answers.list c.in_ok-answers_text.field-0 ran.queries ran.answers c.in_ok-answers_text.ensures;
      state = ran.state;
      layout = ran.layout;
      before = whole.0;
      whole = whole.1;
    }
