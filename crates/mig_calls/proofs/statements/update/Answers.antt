use Rattle.std.proofs.Common.{◌≡◌, ◌∷◌, ◌+◌, ◌<◌, ◌^◌, drop, sym, ap, ◌∙◌, subst, option_map, rules}
use Rattle.std.proofs.lemmas.List.{drop_more}
use Rattle.mig_meaning.specs.Effect.{effect, after_all}
use Rattle.mig_meaning.specs.Lists.{Each, total}
use Rattle.mig_calls.specs.Fits.{StmtFits}
use Rattle.mig_calls.specs.Rows.{rows_added}
use Rattle.mig_meaning.specs.Told.{given_told}
use Rattle.mig_calls.proofs.ChangeLemmas.{option_map-after}
use Rattle.mig_calls.proofs.EffectLemmas.{room-after}
use Rattle.mig_calls.proofs.statements.update.Goals as goal

pub loop-stmt-preserved : goal.loop-stmt-preserved
loop-stmt-preserved g c =
    let layout = (g.S.Store.meaning c.args.store.now).layout in
    let schema = c.args.schema.now in
    let given = given_told c.args.given.now in
    let stmts = c.args.stmts.now in
    let stmt = c.stmt-item.result in
    let rest = drop (c.loop-stmt.stmt-index + 1) c.args.stmts.now in
    let told = (g.S.Store.meaning c.loop-stmt.store).told in
    let split : drop c.loop-stmt.stmt-index c.args.stmts.now ≡ c.stmt-item.result ∷ drop (c.loop-stmt.stmt-index + 1) c.args.stmts.now = drop_more stmts c.loop-stmt.stmt-index stmt c.loop-stmt-test.true ∙ ap (λ x. x ∷ rest) (sym c.stmt-item.is) in
    let ok = c.in_ok-effect.ensures.makes.ok in
    record {
      later = search rules;
      whole = search rules;
      layout = search rules;
      begun = search rules;
      start = search rules;
      fits = (subst (Each (StmtFits layout schema given)) split c.loop-stmt.invariant.fits).1;
      room = λ s e. room-after schema given stmt told (total rows_added rest) (λ r k. subst (λ xs. r.next + total rows_added xs < 2 ^ 63) split (c.loop-stmt.invariant.room r k)) s (sym ok ∙ e);
      rest = ap (option_map (after_all schema given rest)) ok ∙ (option_map-after (after_all schema given rest) (effect schema given stmt) told ∙ (ap (λ xs. option_map (after_all schema given xs) told) (sym split) ∙ c.loop-stmt.invariant.rest));
    }
