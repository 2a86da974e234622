use Rattle.std.proofs.Common.{◌≡◌, ◌++◌, ◌∷◌, [], map, sym, ap, ◌∙◌, subst, rules}
use Rattle.std.specs.Prelude.{filter}
use Rattle.std.proofs.lemmas.List.{append-nil}
use Rattle.mig_meaning.specs.declared.states.Placed.{Placed}
use Rattle.mig_meaning.specs.Lists.{Each}
use Rattle.mig_meaning.specs.Rows.{column_in, rows_of, value_at}
use Rattle.mig_meaning.specs.Values.{value_eq}
use Rattle.mig_calls.specs.Fits.{ChoiceFits}
use Rattle.mig_calls.specs.Joining.{partners}
use Rattle.mig_calls.proofs.ChoiceLemmas.{partner-kind, choices-longer}
use Rattle.mig_calls.proofs.joining.grown.Goals as goal

pub matching-requires-clause-kind : goal.matching-requires-clause-kind
matching-requires-clause-kind g c =
    let layout = (g.S.Store.meaning c.args.store.now).layout in
    let value : c.in_ok-value.value ≡ column_in c.args.earlier.now c.args.choice.now c.args.joined.now.left = c.in_ok-value.ensures ∙ ap (λ e. column_in c.args.earlier.now e c.args.joined.now.left) c.as_slice.ensures in
    partner-kind layout c.args.earlier.now c.args.joined.now c.args.choice.now c.in_ok-value.value c.requires.joined c.requires.choice value

pub returns-clause-fit : goal.returns-clause-fit
returns-clause-fit g c =
    let layout = (g.S.Store.meaning c.args.store.now).layout in
    let earlier = c.args.earlier.now in
    let table = c.args.joined.now.table in
    let put : c.put_longer.new.all.items ≡ map (λ (p : Placed). c.args.choice.now ++ p ∷ []) c.in_ok-rows.rows = search rules in
    subst (Each (ChoiceFits layout (earlier ++ table ∷ []))) (sym put) (choices-longer layout earlier c.args.choice.now table c.in_ok-rows.rows c.requires.choice c.in_ok-rows.ensures.kinds)

pub returns-clause-rows : goal.returns-clause-rows
returns-clause-rows g c = λ s e.
    let m = c.args.joined.now in
    let value : c.in_ok-value.value ≡ column_in c.args.earlier.now c.args.choice.now c.args.joined.now.left = c.in_ok-value.ensures ∙ ap (λ x. column_in c.args.earlier.now x c.args.joined.now.left) c.as_slice.ensures in
    let put : c.put_longer.new.all.items ≡ map (λ (p : Placed). c.args.choice.now ++ p ∷ []) c.in_ok-rows.rows = search rules in
    let found = c.in_ok-rows.ensures.rows s e ∙ ap (λ v. filter (λ (p : Placed). value_eq (value_at p m.right.column) v) (rows_of s m.table)) value in
    put ∙ (ap (map (λ (p : Placed). c.args.choice.now ++ p ∷ [])) found ∙ sym (append-nil (map (λ (p : Placed). c.args.choice.now ++ p ∷ []) (partners s c.args.earlier.now m c.args.choice.now))))
