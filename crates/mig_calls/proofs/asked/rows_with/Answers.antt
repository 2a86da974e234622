use Rattle.std.proofs.Common.{◌≡◌, ◌++◌, true, sym, ap, ◌∙◌, subst, rules}
use Rattle.std.specs.List.{flat_map}
use Rattle.std.proofs.lemmas.List.{take_all}
use Rattle.mig_meaning.specs.declared.states.Placed.{Placed}
use Rattle.mig_meaning.specs.Lists.{Each, In}
use Rattle.mig_meaning.specs.Rows.{rows_of}
use Rattle.mig_meaning.proofs.StateLaw.{each-in}
use Rattle.mig_meaning.proofs.Steps.{flat_map-next}
use Rattle.mig_meaning.proofs.Within.{each-append, each-weaker}
use Rattle.mig_storage.specs.Changes.{has_id}
use Rattle.mig_storage.specs.Layout.{kinds_at, of_kinds}
use Rattle.mig_calls.proofs.OrderLemmas.{asked, asked-in-order, rows-rise}
use Rattle.mig_calls.proofs.asked.rows_with.Goals as goal

pub loop-value-preserved : goal.loop-value-preserved
loop-value-preserved g c =
    let P = λ (p : Placed). of_kinds (kinds_at (g.S.Store.meaning c.args.store.now).layout c.args.table) p.row.values ≡ true in
    let all = c.loop-value.all.items in
    let appended : c.append.new.self.items ≡ c.loop-value.all.items ++ c.in_ok-found.found = c.in_ok-append.ensures.items ∙ ap (λ xs. c.loop-value.all.items ++ xs) c.into_vec.ensures in
    let kinds : Each (λ (p : Placed). of_kinds (kinds_at (g.S.Store.meaning c.args.store.now).layout c.args.table) p.row.values ≡ true) c.in_ok-found.found = subst (λ l. Each (λ (p : Placed). of_kinds (kinds_at l c.args.table) p.row.values ≡ true) c.in_ok-found.found) c.loop-value.invariant.keeps.layout c.in_ok-found.ensures.kinds in
    record {
      later = search rules;
      whole = search rules;
      keeps = search rules;
      kinds = subst (Each P) (sym appended) (each-append P all c.in_ok-found.found c.loop-value.invariant.kinds kinds);
      rows = λ s e.
          flat_map-next (asked c.args.column (rows_of s c.args.table)) c.args.values.now c.loop-value.value-index c.value-item.result all c.append.new.self.items c.loop-value-test.true c.value-item.is (c.loop-value.invariant.rows s e)
          (appended ∙ ap (λ ps. c.loop-value.all.items ++ ps) (c.in_ok-found.ensures.rows s (c.loop-value.invariant.keeps.told ∙ e)));
    }

pub returns-clause-kinds : goal.returns-clause-kinds
returns-clause-kinds g c =
    let P = λ (p : Placed). of_kinds (kinds_at (g.S.Store.meaning c.args.store.now).layout c.args.table) p.row.values ≡ true in
    subst (Each P) (sym c.from_vec.ensures) (each-weaker _ P (λ p k. each-in P p c.loop-value.all.items c.loop-value.invariant.kinds k) c.in_order.result.items c.in_order.ensures.found)

pub returns-clause-rows : goal.returns-clause-rows
returns-clause-rows g c = λ s e.
    let rows = rows_of s c.args.table in
    let whole : c.loop-value.all.items ≡ flat_map (asked c.args.column (rows_of s c.args.table)) c.args.values.now = c.loop-value.invariant.rows s e ∙ ap (flat_map (asked c.args.column rows)) (take_all c.loop-value.value-index c.args.values.now c.loop-value-test.false) in
    c.from_vec.ensures
    ∙ asked-in-order c.args.column rows c.args.values.now c.in_order.result.items (rows-rise _ s c.args.table ((g.met.S.Store.valid c.args.store.now).fits s e)) c.in_order.ensures.rising
    (subst (λ xs. Each (λ (p : Placed). In p xs) c.in_order.result.items) whole c.in_order.ensures.found)
    (λ id. c.in_order.ensures.ids id ∙ ap (has_id id) whole)
