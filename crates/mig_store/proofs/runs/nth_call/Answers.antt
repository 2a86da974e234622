use Rattle.std.proofs.Common.{◌≡◌, ◌*◌, get_or, length, option_map, Some, IfOk, OnOk, sym, ap, ◌∙◌, subst}
use Rattle.mig_schema.specs.declared.programs.Function.{Function}
use Rattle.mig_meaning.specs.declared.states.State.{State}
use Rattle.mig_meaning.specs.Calls.{IsGivenTo}
use Rattle.mig_meaning.specs.Effect.{after, reply}
use Rattle.mig_meaning.specs.Lists.{AllDifferent}
use Rattle.mig_meaning.specs.Run.{function_at}
use Rattle.mig_meaning.specs.Told.{reply_told}
use Rattle.mig_calls.specs.Calling.{given_by}
use Rattle.mig_store.specs.Runs.{numbers_from}
use Rattle.mig_store.proofs.Numbers.{numbers-different, numbers-length}
use Rattle.mig_store.proofs.StepLemmas.{function-is}
use Rattle.mig_store.proofs.runs.nth_call.Goals as goal

pub call-requires-clause-given : goal.call-requires-clause-given
call-requires-clause-given g c =
    let p = c.args.program.now in
    let i = c.args.invocation.now in
    let first = 16 * c.args.number in
    let at = function-is p i.function c.index-as_slice-invocation.result c.requires.given.named (c.index-as_slice-invocation.is ∙ ap (λ fs. get_or fs i.function c.index-as_slice-invocation.result) c.as_slice.ensures) in
    subst (λ (f : Function). IsGivenTo f (given_by i.args c.in_ok-keys.keys)) (sym at)
    (record {
      sixteen = ap length c.in_ok-keys.ensures ∙ numbers-length first 16;
      different = subst AllDifferent (sym c.in_ok-keys.ensures) (numbers-different first 16);
      args = c.requires.given.args;
    })

pub returns-clause-state : goal.returns-clause-state
returns-clause-state g c =
    let p = c.args.program.now in
    let i = c.args.invocation.now in
    let old = (g.S.Store.meaning c.args.store.now).told in
    let new = (g.S.Store.meaning c.call.new.store).told in
    let at = function-is p i.function c.index-as_slice-invocation.result c.requires.given.named (c.index-as_slice-invocation.is ∙ ap (λ fs. get_or fs i.function c.index-as_slice-invocation.result) c.as_slice.ensures) in
    subst (λ ks. OnOk c.call.result (new ≡ option_map (after c.args.schema.now (record { args = i.args.values; keys = ks }) (function_at p i.function).body) old)) c.in_ok-keys.ensures
    (subst (λ (f : Function). OnOk c.call.result (new ≡ option_map (after c.args.schema.now (given_by i.args c.in_ok-keys.keys) f.body) old)) at c.call.ensures.state)

pub returns-clause-reply : goal.returns-clause-reply
returns-clause-reply g c =
    let p = c.args.program.now in
    let i = c.args.invocation.now in
    let old = (g.S.Store.meaning c.args.store.now).told in
    let at = function-is p i.function c.index-as_slice-invocation.result c.requires.given.named (c.index-as_slice-invocation.is ∙ ap (λ fs. get_or fs i.function c.index-as_slice-invocation.result) c.as_slice.ensures) in
    subst (λ ks. IfOk c.call.result (λ r. (s : State) → old ≡ Some s → reply_told r ≡ reply (record { args = i.args.values; keys = ks }) (function_at p i.function).body s)) c.in_ok-keys.ensures
    (subst (λ (f : Function). IfOk c.call.result (λ r. (s : State) → old ≡ Some s → reply_told r ≡ reply (given_by i.args c.in_ok-keys.keys) f.body s)) at c.call.ensures.reply)
