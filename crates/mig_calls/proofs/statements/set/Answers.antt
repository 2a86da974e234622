use Rattle.std.proofs.Common.{◌≡◌, true, refl, sym, ap, ◌∙◌, subst, option_map, rules}
use Rattle.mig_schema.specs.Joins.{tables_of}
use Rattle.mig_meaning.specs.declared.states.State.{State}
use Rattle.mig_meaning.specs.Conditions.{met_rows, scalar_value}
use Rattle.mig_meaning.specs.Effect.{with_set}
use Rattle.mig_meaning.specs.Lists.{Each}
use Rattle.mig_meaning.specs.Rows.{rows_of}
use Rattle.mig_storage.specs.Changes.{has_id}
use Rattle.mig_calls.specs.Making.{AreThere, written_all}
use Rattle.mig_meaning.specs.Told.{given_told}
use Rattle.mig_calls.proofs.EffectLemmas.{met-are-there, ids-there, written-part, on-ok, option_map-at}
use Rattle.mig_calls.proofs.statements.set.Goals as goal

pub write_all-requires-clause-there : goal.write_all-requires-clause-there
write_all-requires-clause-there g c = λ s e.
    let before = sym c.in_ok-met.ensures.keeps.told ∙ e in
    let t = c.args.column.table in
    let there : AreThere c.as_slice-2.result.now c.as_slice-3.result.now s c.args.column.table =
    rw (c.as_slice-2.ensures.value, c.as_slice-3.ensures.value, c.in_ok-tables.ensures, c.in_ok-met.ensures.rows s before) (met-are-there (given_told c.args.given.now) s c.args.join.now c.args.cond.now.cases t c.requires.value.joined) in
    subst (Each (λ id. has_id id (rows_of s t) ≡ true)) (sym c.as_slice-4.ensures.value) (ids-there c.as_slice-2.result.now c.as_slice-3.result.now s t c.in_ok-ids.ids.items c.in_ok-ids.ensures.members there)

pub returns-clause-makes : goal.returns-clause-makes
returns-clause-makes g c =
    let given = given_told c.args.given.now in
    let old = (g.S.Store.meaning c.args.store.now).told in
    let col = c.args.column in
    let value = scalar_value (given_told c.args.given.now) c.args.scalar.now in
    let change = λ (s : State). with_set (tables_of c.args.join.now) (met_rows (given_told c.args.given.now) s c.args.join.now c.args.cond.now.cases) c.args.column (scalar_value (given_told c.args.given.now) c.args.scalar.now) s in
    let same : option_map (written_all c.args.column c.as_slice-4.result.now c.in_ok-value.value) old ≡ option_map change old =
    ap (λ ids. option_map (written_all col ids c.in_ok-value.value) old) c.as_slice-4.ensures.value
    ∙ (ap (λ v. option_map (written_all col c.in_ok-ids.ids.items v) old) c.in_ok-value.ensures
    ∙ option_map-at old (written_all col c.in_ok-ids.ids.items value) change (λ s e.
    written-part col c.in_ok-ids.ids.items value c.as_slice-2.result.now c.as_slice-3.result.now s c.in_ok-ids.ensures.different c.in_ok-ids.ensures.members
    ∙ rw (c.as_slice-2.ensures.value, c.as_slice-3.ensures.value, c.in_ok-tables.ensures, c.in_ok-met.ensures.rows s e) refl)) in
    record {
      ok = on-ok c.write_all.result _ _ (λ h. h ∙ (ap (option_map (written_all col c.as_slice-4.result.now c.in_ok-value.value)) c.in_ok-met.ensures.keeps.told ∙ same)) c.write_all.ensures.makes.ok;
      begun = search rules;
      start = search rules;
      layout = search rules;
    }
