use Rattle.std.proofs.Common.{◌≡◌, [], get_or, ap, sym, ◌∙◌}
use Rattle.std.specs.List.{list_all}
use Rattle.std.proofs.lemmas.List.{get_or_default}
use Rattle.mig_maxsat.specs.Losses.{is_costly, is_costly_lit}
use Rattle.mig_maxsat.proofs.Costly.{passing_taken, passing_left}
use Rattle.mig_maxsat.proofs.hopeless.costly.Goals.{then-is_costly+in_ok-push, else-is_costly}
use Rattle.mig_maxsat.proofs.hopeless.costly.Goals as goal

pub loop-number-preserved : goal.loop-number-preserved
loop-number-preserved c =
    let p = c.args.problem.now in
    let n = c.loop-number.number in
    let clause : c.as_slice.result.now ≡ get_or c.args.problem.now.hard.clauses c.loop-number.number [] = c.as_slice.ensures ∙ (c.index-clauses-number.is ∙ (get_or_default c.as_slice-clauses.result.now n c.index-clauses-number.result [] c.loop-number-test.true ∙ ap (λ cs. get_or cs c.loop-number.number []) c.as_slice-clauses.ensures)) in
    let test : is_costly c.args.problem.now c.loop-number.number ≡ c.is_costly.result = sym (c.is_costly.ensures ∙ (ap (λ ws. list_all (is_costly_lit ws) c.as_slice.result.now) c.as_slice-weights.ensures ∙ ap (list_all (is_costly_lit c.args.problem.now.weights)) clause)) in
    elim c.if-is_costly.branch [
      | then-is_costly+in_ok-push w ↦ ap (λ v. v.items) w.numbers-is ∙ (w.in_ok-push.ensures.items ∙ passing_taken (is_costly p) n c.loop-number.numbers.items c.loop-number.invariant (test ∙ w.if-is_costly.true))
      | else-is_costly w ↦ ap (λ v. v.items) w.numbers-is ∙ passing_left (is_costly p) n c.loop-number.numbers.items c.loop-number.invariant (test ∙ w.if-is_costly.false)
    ]
