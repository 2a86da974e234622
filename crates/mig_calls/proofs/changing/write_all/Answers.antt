use Rattle.std.proofs.Common.{◌≡◌, ◌∷◌, ◌+◌, true, drop, get_or, sym, ap, ◌∙◌, subst, option_map, rules}
use Rattle.std.proofs.lemmas.List.{drop_more}
use Rattle.mig_meaning.specs.Lists.{Each}
use Rattle.mig_meaning.specs.Rows.{rows_of}
use Rattle.mig_storage.specs.Changes.{has_id, written}
use Rattle.mig_calls.specs.Making.{written_all}
use Rattle.mig_calls.proofs.ChangeLemmas.{there-written, option_map-after}
use Rattle.mig_calls.proofs.changing.write_all.Goals as goal

pub loop-id-preserved : goal.loop-id-preserved
loop-id-preserved g c =
    let t = c.args.column.table in
    let ids = c.args.ids.now in
    let i = c.loop-id.id-index in
    let j = get_or c.args.ids.now c.loop-id.id-index 0 in
    let rest = drop (c.loop-id.id-index + 1) c.args.ids.now in
    let told = (g.S.Store.meaning c.loop-id.store).told in
    let v = c.args.value.now in
    let split : drop c.loop-id.id-index c.args.ids.now ≡ get_or c.args.ids.now c.loop-id.id-index 0 ∷ drop (c.loop-id.id-index + 1) c.args.ids.now = drop_more ids i 0 c.loop-id-test.true in
    let ok = c.in_ok-set.ensures.changes.ok ∙ ap (λ x. option_map (written t j c.args.column.column x) told) c.in_ok-twin.ensures in
    record {
      later = search rules;
      whole = search rules;
      layout = search rules;
      begun = search rules;
      start = search rules;
      there = λ s e. there-written told t j c.args.column.column v rest (λ r k. (subst (Each (λ id. has_id id (rows_of r t) ≡ true)) split (c.loop-id.invariant.there r k)).1) s (sym ok ∙ e);
      rest = ap (option_map (written_all c.args.column rest v)) ok ∙ (option_map-after (written_all c.args.column rest v) (written t j c.args.column.column v) told ∙ (ap (λ js. option_map (written_all c.args.column js v) told) (sym split) ∙ c.loop-id.invariant.rest));
    }
