use Rattle.std.proofs.Common.{◌∙◌, ◌+◌, [], ap, get_or, inr, sym}
use Rattle.csv.specs.Records.{fields_of}
use Rattle.mig_store.specs.Fields.{value_spelled}
use Rattle.mig_store.proofs.Arguments.{goes_on, stops}
use Rattle.mig_store.proofs.calls.arguments.Goals as goal

pub returns-in_default : goal.returns-in_default
returns-in_default c =
    let inv = c.loop-param.invariant in
    let r = fields_of c.args.record.now in
    let p = c.param-item.result in
    let text = c.field.ensures ∙ ap (λ n. get_or r (n + 1) []) inv.place in
    let none = sym c.in_default.is ∙ c.in_ok-value.ensures ∙ ap (value_spelled p.kind) text in
    let number = c.in_ok-field.ensures.ok ∙ ap (λ n. n + 1) inv.place in
    inr (stops c.args.at c.args.params.now r c.loop-param.param-index c.in_ok-field.field p c.loop-param.values _ number c.requires c.loop-param-test.true c.param-item.is none inv.rest)

pub loop-param-preserved : goal.loop-param-preserved
loop-param-preserved c =
    let inv = c.loop-param.invariant in
    let r = fields_of c.args.record.now in
    let p = c.param-item.result in
    let text = c.field.ensures ∙ ap (λ n. get_or r (n + 1) []) inv.place in
    let spelled = sym c.in-Some.is ∙ c.in_ok-value.ensures ∙ ap (value_spelled p.kind) text in
    record {
      place = ap (λ n. n + 1) inv.place;
      rest = goes_on c.args.at c.args.params.now r c.loop-param.param-index p c.loop-param.values c.push.new.self c.in-Some.value _ c.in_ok-push.ensures.ok c.requires c.loop-param-test.true c.param-item.is spelled inv.rest;
    }
