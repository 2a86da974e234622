use Rattle.std.proofs.Common.{◌++◌, ◌∷◌, [], refl, get_or, ◌∙◌, subst}
use Rattle.std.proofs.lemmas.List.{length-set, get_or_default}
use Rattle.std.proofs.lemmas.Option.{slice_get-get_or}
use Rattle.mig_sat.specs.Agendas.{IsGrown, IsListedFor}
use Rattle.mig_sat.proofs.Growing.{lists_none, lists_next}
use Rattle.mig_sat.proofs.listing.enter_clauses.Goals as goal

pub loop-number-init : goal.loop-number-init
loop-number-init c = (refl, lists_none c.args.clauses.now c.args.lists.now)

pub loop-number-preserved : goal.loop-number-preserved
loop-number-preserved c =
    let lists = c.loop-number.lists in
    let number = c.loop-number.number in
    let clause = get_or c.args.clauses.now number [] in
    let e = c.in_ok-enter.ensures in
    let grown = subst (λ ls. IsGrown ls c.enter_all.new.lists) e c.in_ok-enter_all.ensures.grown in
    let listed = subst (λ lits. IsListedFor c.enter_all.new.lists lits number) (c.as_slice.ensures ∙ (c.index-clauses-number.is ∙ get_or_default c.args.clauses.now number c.index-clauses-number.result [] c.loop-number-test.true)) c.in_ok-enter_all.ensures.listed in (
      grown.sized ∙ (length-set lists 0 (get_or lists 0 [] ++ number ∷ []) ∙ c.loop-number.invariant.0),
      lists_next number c.args.clauses.now lists c.enter_all.new.lists clause c.loop-number.invariant.1 (slice_get-get_or c.args.clauses.now number [] c.loop-number-test.true) grown listed,
    )
