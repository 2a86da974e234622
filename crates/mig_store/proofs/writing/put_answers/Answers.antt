use Rattle.std.proofs.Common.{List, ◌++◌, ap, sym}
use Rattle.std.specs.List.{flat_map}
use Rattle.std.proofs.lemmas.List.{append-nil, take_all}
use Rattle.mig_calls.proofs.ChoiceLemmas.{each-item}
use Rattle.mig_store.specs.declared.answers.Answered.{Answered}
use Rattle.mig_store.specs.Told.{answered_told}
use Rattle.mig_store.specs.Writing.{answer_text}
use Rattle.mig_store.proofs.Written.{answer-more, in_words}
use Rattle.mig_store.proofs.writing.put_answers.Goals as goal

pub put_answer-requires : goal.put_answer-requires
put_answer-requires g c = each-item _ c.args.answers.now c.loop-answered.answered-index c.answered-item.result c.requires c.loop-answered-test.true c.answered-item.is

pub loop-answered-init : goal.loop-answered-init
loop-answered-init g c = λ text h. in_words g.W.Write.contents _ text _ (sym (append-nil text)) h

pub loop-answered-preserved : goal.loop-answered-preserved
loop-answered-preserved g c = λ text h.
    let more = answer-more (λ (a : Answered). answer_text c.args.program.now (answered_told a)) text c.args.answers.now c.loop-answered.answered-index c.answered-item.result c.loop-answered-test.true c.answered-item.is in
    in_words g.W.Write.contents _ _ _ more (c.in_ok-put_answer.ensures _ (c.loop-answered.invariant text h))

pub returns : goal.returns
returns g c = λ text h.
    in_words g.W.Write.contents _ _ _ (ap (λ (xs : List Answered). text ++ flat_map (λ a. answer_text c.args.program.now (answered_told a)) xs) (take_all c.loop-answered.answered-index c.args.answers.now c.loop-answered-test.false)) (c.loop-answered.invariant text h)
