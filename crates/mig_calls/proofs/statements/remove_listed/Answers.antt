use Rattle.std.proofs.Common.{◌≡◌, ◌<◌, ◌+◌, true, not, drop, get_or, length, sym, ap, ◌∙◌, subst, option_map, rules}
use Rattle.std.specs.Prelude.{filter}
use Rattle.std.proofs.lemmas.Bool.{or_parts}
use Rattle.std.proofs.lemmas.List.{drop_more}
use Rattle.mig_schema.specs.Joins.{is_among}
use Rattle.mig_schema.specs.Typed.{stands_twice}
use Rattle.mig_meaning.specs.declared.states.Placed.{Placed}
use Rattle.mig_meaning.specs.Effect.{takes_part}
use Rattle.mig_meaning.specs.Lists.{Each}
use Rattle.mig_meaning.specs.Rows.{rows_of}
use Rattle.mig_storage.specs.Changes.{changed_at, has_id}
use Rattle.mig_calls.specs.Making.{AreThere, removed_all, without_each}
use Rattle.mig_calls.proofs.ChangeLemmas.{option_map-after}
use Rattle.mig_calls.proofs.EffectLemmas.{ids-there, removed-part, there-after, option_map-at}
use Rattle.mig_calls.proofs.statements.remove_listed.Goals as goal

pub remove_all-requires-clause-there : goal.remove_all-requires-clause-there
remove_all-requires-clause-there g c = λ s e.
    let ts = c.args.tables.now in
    let es = c.args.met.now in
    let t = get_or c.args.listed.now c.loop-t.t-index 0 in
    let split = drop_more c.args.listed.now c.loop-t.t-index 0 c.loop-t-test.true in
    let there = subst (Each (AreThere ts es s)) split (c.loop-t.invariant.there s e) in
    subst (Each (λ id. has_id id (rows_of s t) ≡ true)) (sym c.as_slice.ensures.value) (ids-there ts es s t c.in_ok-ids.ids.items c.in_ok-ids.ensures.members there.0)

pub loop-t-preserved : goal.loop-t-preserved
loop-t-preserved g c =
    let ts = c.args.tables.now in
    let es = c.args.met.now in
    let t = get_or c.args.listed.now c.loop-t.t-index 0 in
    let rest = drop (c.loop-t.t-index + 1) c.args.listed.now in
    let told = (g.S.Store.meaning c.loop-t.store).told in
    let out = filter (λ (p : Placed). not (takes_part c.args.tables.now c.args.met.now (get_or c.args.listed.now c.loop-t.t-index 0) p)) in
    let split = drop_more c.args.listed.now c.loop-t.t-index 0 c.loop-t-test.true in
    let once = or_parts (is_among t rest) (stands_twice rest) (ap stands_twice (sym split) ∙ c.loop-t.invariant.once) in
    let ok : (g.S.Store.meaning c.remove_all.new.store).told ≡ option_map (changed_at t out) told =
    c.in_ok-remove_all.ensures.makes.ok ∙ (ap (λ ids. option_map (removed_all t ids) told) c.as_slice.ensures.value ∙ option_map-at told (removed_all t c.in_ok-ids.ids.items) (changed_at t out) (λ s e. removed-part t c.in_ok-ids.ids.items ts es s c.in_ok-ids.ensures.members)) in
    record {
      later = search rules;
      whole = search rules;
      layout = search rules;
      begun = search rules;
      start = search rules;
      listed = (subst (Each (λ u. u < length (g.S.Store.meaning c.args.store.now).layout)) split c.loop-t.invariant.listed).1;
      once = once.1;
      there = λ s e. there-after told ts es t out rest once.0 (λ r k. (subst (Each (AreThere ts es r)) split (c.loop-t.invariant.there r k)).1) s (sym ok ∙ e);
      rest = ap (option_map (without_each ts es rest)) ok ∙ (option_map-after (without_each ts es rest) (changed_at t out) told ∙ (ap (λ us. option_map (without_each ts es us) told) (sym split) ∙ c.loop-t.invariant.rest));
    }
