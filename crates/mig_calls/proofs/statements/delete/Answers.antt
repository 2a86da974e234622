use Rattle.std.proofs.Common.{◌≡◌, ◌<◌, length, sym, ap, ◌∙◌, subst, option_map, rules}
use Rattle.mig_schema.specs.Joins.{tables_of}
use Rattle.mig_meaning.specs.declared.states.State.{State}
use Rattle.mig_meaning.specs.Conditions.{met_rows}
use Rattle.mig_meaning.specs.Effect.{without_rows}
use Rattle.mig_meaning.specs.Lists.{Each}
use Rattle.mig_meaning.proofs.Within.{each-weaker}
use Rattle.mig_calls.specs.Making.{without_each}
use Rattle.mig_meaning.specs.Told.{given_told}
use Rattle.mig_calls.proofs.EffectLemmas.{among-within, listed-are-there, without_each-is, on-ok, option_map-at}
use Rattle.mig_calls.proofs.statements.delete.Goals as goal

pub remove_listed-requires-clause-listed : goal.remove_listed-requires-clause-listed
remove_listed-requires-clause-listed g c =
    subst (λ l. Each (λ t. t < length l) c.args.listed.now) (sym c.in_ok-met.ensures.keeps.layout)
    (each-weaker _ _ (λ t h. among-within (g.S.Store.meaning c.args.store.now).layout c.args.join.now t c.requires.join h) c.args.listed.now c.requires.listed.joined)

pub remove_listed-requires-clause-there : goal.remove_listed-requires-clause-there
remove_listed-requires-clause-there g c = λ s e.
    let before = sym c.in_ok-met.ensures.keeps.told ∙ e in
    rw (c.as_slice-2.ensures.value, c.as_slice-3.ensures.value, c.in_ok-tables.ensures, c.in_ok-met.ensures.rows s before)
    (listed-are-there (given_told c.args.given.now) s c.args.join.now c.args.cond.now.cases c.args.listed.now c.requires.listed.joined)

pub returns-clause-makes : goal.returns-clause-makes
returns-clause-makes g c =
    let given = given_told c.args.given.now in
    let old = (g.S.Store.meaning c.args.store.now).told in
    let change = λ (s : State). without_rows (tables_of c.args.join.now) (met_rows (given_told c.args.given.now) s c.args.join.now c.args.cond.now.cases) c.args.listed.now s in
    let same : option_map (without_each c.as_slice-2.result.now c.as_slice-3.result.now c.args.listed.now) old ≡ option_map change old =
    option_map-at old _ change (λ s e. rw (c.as_slice-2.ensures.value, c.as_slice-3.ensures.value, c.in_ok-tables.ensures, c.in_ok-met.ensures.rows s e) (without_each-is (tables_of c.args.join.now) (met_rows given s c.args.join.now c.args.cond.now.cases) c.args.listed.now s c.requires.listed.once)) in
    record {
      ok = on-ok c.remove_listed.result _ _ (λ h. h ∙ (ap (option_map (without_each c.as_slice-2.result.now c.as_slice-3.result.now c.args.listed.now)) c.in_ok-met.ensures.keeps.told ∙ same)) c.remove_listed.ensures.makes.ok;
      begun = search rules;
      start = search rules;
      layout = search rules;
    }
