use Rattle.std.proofs.Common.{◌≡◌, true, ◌∙◌, subst, rules}
use Rattle.mig_schema.specs.Joins.{is_among, tables_of}
use Rattle.mig_meaning.specs.declared.states.Placed.{Placed}
use Rattle.mig_meaning.specs.Lists.{Each}
use Rattle.mig_storage.specs.Layout.{kinds_at, of_kinds}
use Rattle.mig_calls.specs.Pins.{CasesPin}
use Rattle.mig_meaning.specs.Told.{given_told}
use Rattle.mig_calls.proofs.EffectLemmas.{among-within, if-ok}
use Rattle.mig_calls.proofs.LeadLemmas.{cover-first}
use Rattle.mig_calls.proofs.PinLemmas.{pin-fits, all-cover, matching-covers}
use Rattle.mig_calls.proofs.pins.first_rows.Goals as goal

pub matching-requires-clause-table : goal.matching-requires-clause-table
matching-requires-clause-table g c =
    let among : is_among c.in-Some.pin.column.table (tables_of c.args.join.now) ≡ true = search rules in
    among-within (g.S.Store.meaning c.args.store.now).layout c.args.join.now c.in-Some.pin.column.table c.requires.join among

pub matching-requires-clause-column : goal.matching-requires-clause-column
matching-requires-clause-column g c =
    let pin : CasesPin (given_told c.args.given.now) c.in-Some.pin.column.table c.in-Some.pin.column.column c.in-Some.pin.value c.args.cond.now.cases = search rules in
    (pin-fits (g.S.Store.meaning c.args.store.now).layout (given_told c.args.given.now) (tables_of c.args.join.now) c.in-Some.pin.column.table c.in-Some.pin.column.column c.in-Some.pin.value c.args.cond.now.cases c.requires.cases pin).0

pub matching-requires-clause-kind : goal.matching-requires-clause-kind
matching-requires-clause-kind g c =
    let pin : CasesPin (given_told c.args.given.now) c.in-Some.pin.column.table c.in-Some.pin.column.column c.in-Some.pin.value c.args.cond.now.cases = search rules in
    (pin-fits (g.S.Store.meaning c.args.store.now).layout (given_told c.args.given.now) (tables_of c.args.join.now) c.in-Some.pin.column.table c.in-Some.pin.column.column c.in-Some.pin.value c.args.cond.now.cases c.requires.cases pin).1

pub returns-in_ok-rows-in-Some-clause-kinds : goal.returns-in_ok-rows-in-Some-clause-kinds
returns-in_ok-rows-in-Some-clause-kinds g c =
    if-ok c.first_from.result _ _ (λ rows h. subst (λ l. Each (λ (p : Placed). of_kinds (kinds_at l c.args.join.now.first) p.row.values ≡ true) rows) c.in_ok-rows-in-Some.ensures.keeps.layout h) c.first_from.ensures.kinds

pub returns-in_ok-rows-in-Some-clause-cover : goal.returns-in_ok-rows-in-Some-clause-cover
returns-in_ok-rows-in-Some-clause-cover g c =
    let given = given_told c.args.given.now in
    let join = c.args.join.now in
    let cases = c.args.cond.now.cases in
    let pin : CasesPin (given_told c.args.given.now) c.in-Some.pin.column.table c.in-Some.pin.column.column c.in-Some.pin.value c.args.cond.now.cases = search rules in
    if-ok c.first_from.result _ _ (λ rows h s e.
    cover-first given s join cases rows
    (h given s cases (c.in_ok-rows-in-Some.ensures.keeps.told ∙ e)
    (matching-covers given s join cases c.in-Some.pin.column.table c.in-Some.pin.column.column c.in-Some.pin.value c.in_ok-rows-in-Some.rows pin (c.in_ok-rows-in-Some.ensures.rows s e)))) c.first_from.ensures.cover

pub returns-in-None-clause-cover : goal.returns-in-None-clause-cover
returns-in-None-clause-cover g c = if-ok c.rows.result _ _ (λ rows h s e. all-cover (given_told c.args.given.now) s c.args.join.now c.args.cond.now.cases rows (h s e)) c.rows.ensures.rows
