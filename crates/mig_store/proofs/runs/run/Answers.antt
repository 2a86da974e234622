use Rattle.std.proofs.Common.{◌≡◌, ◌+◌, ◌<◌, ◌≤◌, ◌⊎◌, inl, inr, get_or, length, sym, ap, ◌∙◌, subst, rules, arith}
use Rattle.mig_meaning.specs.Calls.{IsCall}
use Rattle.mig_store.proofs.RunLemmas.{call-there, next-within}
use Rattle.mig_store.proofs.StepLemmas.{answers-more, err-holds, queries-more, told-is, told-more}
use Rattle.mig_store.proofs.runs.run.Goals as goal

pub nth_call-requires-clause-given : goal.nth_call-requires-clause-given
nth_call-requires-clause-given g c =
    let calls = c.args.calls.now.calls in
    let k = c.loop-invocation.invocation-index in
    let i = c.invocation-item.result in
    let l : k < length calls = subst (λ xs. k < length xs) c.as_slice-invocation-items.ensures c.loop-invocation-test.true in
    let is : i ≡ get_or calls k i = c.invocation-item.is ∙ ap (λ xs. get_or xs k i) c.as_slice-invocation-items.ensures in
    subst (IsCall c.args.program.now) (sym is) (call-there c.args.program.now calls k i c.requires.given l)

pub returns-in_err-put_answer-clause-fault : goal.returns-in_err-put_answer-clause-fault
returns-in_err-put_answer-clause-fault g c =
    let k = c.loop-invocation.invocation-index in
    let calls = c.args.calls.now.calls in
    let i = c.invocation-item.result in
    let l : k < length calls = subst (λ xs. k < length xs) c.as_slice-invocation-items.ensures c.loop-invocation-test.true in
    let is : i ≡ get_or calls k i = c.invocation-item.is ∙ ap (λ xs. get_or xs k i) c.as_slice-invocation-items.ensures in
    err-holds _ _ (inr (inl (record {
      made = k + 1;
      within = omega (arith, l);
      told = told-more c.args.schema.now c.args.program.now calls k c.loop-invocation.number i _ _ _ l is c.loop-invocation.invariant.number c.loop-invocation.invariant.told c.in_ok-reply.ensures.state;
    })))

pub loop-invocation-preserved : goal.loop-invocation-preserved
loop-invocation-preserved g c =
    let schema = c.args.schema.now in
    let p = c.args.program.now in
    let k = c.loop-invocation.invocation-index in
    let calls = c.args.calls.now.calls in
    let i = c.invocation-item.result in
    let l : k < length calls = subst (λ xs. k < length xs) c.as_slice-invocation-items.ensures c.loop-invocation-test.true in
    let is : i ≡ get_or calls k i = c.invocation-item.is ∙ ap (λ xs. get_or xs k i) c.as_slice-invocation-items.ensures in
    let inv = c.loop-invocation.invariant in
    let same = inv.number in
    record {
      later = search rules;
      whole = search rules;
      rest = search rules;
      layout = search rules;
      number = omega (arith, same);
      told = told-more schema p calls k c.loop-invocation.number i _ _ _ l is same inv.told c.in_ok-reply.ensures.state;
      next = next-within schema p calls k i c.requires.callable l inv.next;
      queries = queries-more p calls k c.loop-invocation.number i c.in_ok-reply.reply _ _ l is same c.in_ok-reply.ensures.kind c.in_ok-put_answer.ensures inv.queries;
      answers = λ s e. answers-more schema p calls k c.loop-invocation.number i c.in_ok-reply.reply _ _ _ l is same (c.in_ok-reply.ensures.reply _ (told-is _ _ _ s inv.told e)) c.in_ok-put_answer.ensures (inv.answers s e);
    }
