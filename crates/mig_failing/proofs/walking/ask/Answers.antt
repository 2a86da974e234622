use Rattle.std.proofs.Common.{List, ◌∷◌, [], ◌++◌, ap, sym, ◌∙◌, subst, arith}
use Rattle.std.specs.Prelude.{None}
use Rattle.std.proofs.lemmas.Bool.{both_ways}
use Rattle.mig_meaning.specs.declared.calling.Invocation.{Invocation}
use Rattle.mig_failing.specs.Failing.{AgreeOn}
use Rattle.mig_failing.specs.Playing.{Walks}
use Rattle.mig_failing.proofs.Walked.{asked, asked_all, asked_found, each_done, each_spent}
use Rattle.mig_failing.proofs.walking.ask.Goals as goal

pub returns-then-left-eq0 : goal.returns-then-left-eq0
returns-then-left-eq0 c =
    let t = c.args.tests.now in
    let before = c.args.played.now.calls in
    subst (λ ls. Walks t.job.now t.program.now ls c.args.left.now c.loop-query.left None) (asked_all t.queries.now before)
    (each_spent t.job.now t.program.now (asked before) t.queries.now c.loop-query.query-index c.args.left.now c.loop-query.left c.if-left-eq0.true c.loop-query.invariant.walks)

pub returns-then-not-branch : goal.returns-then-not-branch
returns-then-not-branch c =
    let t = c.args.tests.now in
    let before = c.args.played.now.calls in
    let q = c.query-item.result in
    let made = ap (λ (xs : List Invocation). xs ++ q ∷ []) (c.in_ok-agree.ensures.calls ∙ c.loop-query.invariant.calls) in
    let asks = ap (λ (xs : List Invocation). xs ++ q ∷ []) c.loop-query.invariant.calls in
    asked_found t.job.now t.program.now before t.queries.now c.loop-query.query-index c.args.left.now c.loop-query.left q c.in_ok-with_call.field-0 c.loop-query-test.true c.query-item.is c.loop-query.invariant.walks c.if-left-eq0.false
    (c.in_ok-with_call.ensures ∙ made)
    (λ same. both_ways c.in_ok-agree.field-0 c.if-not-branch.true (c.in_ok-agree.ensures.agree.1 (subst (AgreeOn t.job.now t.program.now) (sym asks) same)))

pub returns : goal.returns
returns c =
    let t = c.args.tests.now in
    let before = c.args.played.now.calls in
    subst (λ ls. Walks t.job.now t.program.now ls c.args.left.now c.loop-query.left None) (asked_all t.queries.now before)
    (each_done t.job.now t.program.now (asked before) t.queries.now c.loop-query.query-index c.args.left.now c.loop-query.left (omega (arith, c.loop-query-test.false, c.loop-query.auto.query-index-end)) c.loop-query.invariant.walks)
