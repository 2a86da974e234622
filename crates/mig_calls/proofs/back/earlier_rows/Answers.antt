use Rattle.std.proofs.Common.{◌≡◌, true, sym, ap, ◌∙◌, subst}
use Rattle.std.specs.Prelude.{filter}
use Rattle.mig_meaning.specs.Lists.{Each}
use Rattle.mig_meaning.specs.Rows.{rows_of}
use Rattle.mig_meaning.specs.Values.{of_kind}
use Rattle.mig_storage.specs.Layout.{kind_at}
use Rattle.mig_calls.specs.Leading.{has_one_of}
use Rattle.mig_calls.proofs.EffectLemmas.{if-ok}
use Rattle.mig_calls.proofs.LeadLemmas.{asked-kinds, met-is-one}
use Rattle.mig_calls.proofs.back.earlier_rows.Goals as goal

pub rows_with-requires-clause-kind : goal.rows_with-requires-clause-kind
rows_with-requires-clause-kind g c =
    let layout = (g.S.Store.meaning c.args.store.now).layout in
    let m = c.args.joined.now in
    subst (Each (λ v. of_kind (kind_at (g.S.Store.meaning c.args.store.now).layout c.args.joined.now.left.table c.args.joined.now.left.column) v ≡ true)) (sym c.as_slice.ensures.value)
    (asked-kinds layout m c.args.rows.now c.in_ok-values.values.items c.requires.right c.requires.same c.requires.rows c.in_ok-values.ensures.members)

pub returns-clause-found : goal.returns-clause-found
returns-clause-found g c =
    let m = c.args.joined.now in
    if-ok c.rows_with.result _ _ (λ found h s e.
    h s e
    ∙ (ap (λ vs. filter (has_one_of vs c.args.joined.now.left.column) (rows_of s c.args.joined.now.left.table)) c.as_slice.ensures.value
    ∙ met-is-one m c.args.rows.now c.in_ok-values.values.items (rows_of s m.left.table) c.in_ok-values.ensures.members)) c.rows_with.ensures.rows
