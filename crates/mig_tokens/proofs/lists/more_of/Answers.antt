use Rattle.std.proofs.Common.{sym, ◌∙◌}
use Rattle.std.proofs.lemmas.Result.{err_from_is_err_and}
use Rattle.mig_tokens.proofs.Loop.{goes_on, stops, ends, is_done}
use Rattle.mig_tokens.proofs.lists.more_of.Goals as goal

pub returns-else-begins : goal.returns-else-begins
returns-else-begins g c = stops g.T.Item.begun g.T.Item.takes g.T.Item.reads c.loop-i.items.items _ c.loop-i.i _ c.loop-i.rest.now _ c.loop-i-test.true (sym c.begins.ensures ∙ c.if-begins.false) c.loop-i.invariant

pub returns-in_err-item : goal.returns-in_err-item
returns-in_err-item g c =
    let p = err_from_is_err_and c.from_residual.result c.from_residual.ensures.1 in
    rw (p.1, p.2) (ends g.T.Item.begun g.T.Item.takes g.T.Item.reads c.in_err-item.field-0.0 c.loop-i.items.items _ c.loop-i.i _ c.loop-i.rest.now _ c.loop-i-test.true (sym c.begins.ensures ∙ c.if-begins.true) c.in_err-item.ensures c.loop-i.invariant)

pub loop-i-preserved : goal.loop-i-preserved
loop-i-preserved g c =
    rw (c.in_ok-push.ensures.items, c.saturating_sub-left.ensures, c.taken.ensures) (goes_on g.T.Item.begun g.T.Item.takes g.T.Item.reads c.loop-i.items.items _ c.loop-i.i c.args.start c.loop-i.left c.loop-i.rest.now c.in_ok-item.item c.in_ok-item.more.now _ c.loop-i-test.true (sym c.begins.ensures ∙ c.if-begins.true) c.in_ok-item.ensures c.loop-i.invariant)

pub returns : goal.returns
returns g c = is_done g.T.Item.begun g.T.Item.takes g.T.Item.reads c.loop-i.items.items _ c.loop-i.i _ c.loop-i.rest.now _ c.loop-i-test.false c.loop-i.invariant
