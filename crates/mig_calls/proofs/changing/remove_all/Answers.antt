use Rattle.std.proofs.Common.{◌≡◌, ◌∷◌, ◌+◌, true, drop, get_or, sym, ap, ◌∙◌, subst, option_map, rules}
use Rattle.std.proofs.lemmas.List.{drop_more}
use Rattle.mig_meaning.specs.Lists.{AllDifferent, Each}
use Rattle.mig_meaning.specs.Rows.{rows_of}
use Rattle.mig_storage.specs.Changes.{has_id, removed}
use Rattle.mig_calls.specs.Making.{removed_all}
use Rattle.mig_calls.proofs.ChangeLemmas.{there-removed, option_map-after}
use Rattle.mig_calls.proofs.changing.remove_all.Goals as goal

pub loop-id-preserved : goal.loop-id-preserved
loop-id-preserved g c =
    let t = c.args.table in
    let ids = c.args.ids.now in
    let i = c.loop-id.id-index in
    let j = get_or c.args.ids.now c.loop-id.id-index 0 in
    let rest = drop (c.loop-id.id-index + 1) c.args.ids.now in
    let told = (g.S.Store.meaning c.loop-id.store).told in
    let split : drop c.loop-id.id-index c.args.ids.now ≡ get_or c.args.ids.now c.loop-id.id-index 0 ∷ drop (c.loop-id.id-index + 1) c.args.ids.now = drop_more ids i 0 c.loop-id-test.true in
    let different = subst AllDifferent split c.loop-id.invariant.different in
    record {
      later = search rules;
      whole = search rules;
      layout = search rules;
      begun = search rules;
      start = search rules;
      different = different.1;
      there = λ s e. there-removed told t j rest different.0 (λ r k. (subst (Each (λ id. has_id id (rows_of r t) ≡ true)) split (c.loop-id.invariant.there r k)).1) s (sym c.in_ok-remove.ensures.changes.ok ∙ e);
      rest = ap (option_map (removed_all t rest)) c.in_ok-remove.ensures.changes.ok ∙ (option_map-after (removed_all t rest) (removed t j) told ∙ (ap (λ js. option_map (removed_all t js) told) (sym split) ∙ c.loop-id.invariant.rest));
    }
