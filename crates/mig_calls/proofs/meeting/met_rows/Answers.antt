use Rattle.std.proofs.Common.{◌≡◌, ◌∷◌, [], take, map, ap, ◌∙◌}
use Rattle.std.specs.Prelude.{filter}
use Rattle.mig_meaning.specs.declared.states.Placed.{Placed}
use Rattle.mig_meaning.specs.Conditions.{cases_true}
use Rattle.mig_meaning.specs.Rows.{JoinRow}
use Rattle.mig_meaning.specs.Told.{given_told}
use Rattle.mig_schema.specs.Joins.{tables_of}
use Rattle.mig_calls.specs.Joining.{grown_all}
use Rattle.mig_calls.proofs.ChoiceLemmas.{singles-fit}
use Rattle.mig_calls.proofs.JoinLemmas.{met-from}
use Rattle.mig_calls.proofs.meeting.met_rows.Goals as goal

pub put_met-requires-clause-choices : goal.put_met-requires-clause-choices
put_met-requires-clause-choices g c =
    let first : take 1 c.args.tables.now ≡ c.args.join.now.first ∷ [] = ap (take 1) c.requires.tables in
    rw (c.in_ok-choices.ensures, first, c.in_ok-first.ensures.keeps.layout) (singles-fit (g.S.Store.meaning c.args.store.now).layout c.args.join.now.first c.in_ok-first.first c.in_ok-first.ensures.kinds)

pub returns-clause-rows : goal.returns-clause-rows
returns-clause-rows g c = λ s e.
    let told = c.in_ok-first.ensures.keeps.told ∙ e in
    let first : take 1 c.args.tables.now ≡ c.args.join.now.first ∷ [] = ap (take 1) c.requires.tables in
    let found : c.put_met.new.all.items ≡ filter (λ (x : JoinRow). cases_true (given_told c.args.given.now) (tables_of c.args.join.now) x c.args.cond.now.cases) (grown_all s (c.args.join.now.first ∷ []) c.args.join.now.more (map (λ (p : Placed). p ∷ []) c.in_ok-first.first)) =
    rw (c.new-met.ensures.items, first, c.requires.tables, c.as_slice.ensures, c.as_slice-cases.ensures, c.in_ok-choices.ensures) at (c.in_ok-put_met.ensures.rows s told) in
    found ∙ met-from (g.S.Store.meaning c.args.store.now).layout (given_told c.args.given.now) s c.args.join.now c.args.cond.now.cases c.in_ok-first.first c.requires.join (c.in_ok-first.ensures.cover s e)
