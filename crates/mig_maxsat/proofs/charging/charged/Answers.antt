use Rattle.std.proofs.Common.{◌≡◌, ℕ, pos, ◌+◌, ◌≤◌, ◌≤ℤ◌, ◌+ℤ◌, List, Bool, length, get_or, take, drop, ◌++◌, w64, SFits, to_z, of_z, ap, sym, ◌∙◌, subst, arith, rules}
use Rattle.std.specs.Prelude.{IfSome, slice_get}
use Rattle.std.proofs.lemmas.Int.{to_z-of_z}
use Rattle.std.proofs.lemmas.List.{get_or_default, take_more, take_all}
use Rattle.mig_sat.specs.Models.{IsModel}
use Rattle.mig_sat.specs.Steps.{FollowsAll}
use Rattle.mig_maxsat.specs.Heaviest.{weight, magnitude}
use Rattle.mig_maxsat.specs.Bounds.{weight_of, IsCharged}
use Rattle.mig_maxsat.specs.Losses.{IsSpent, IsChargeAt, AreCharged}
use Rattle.mig_maxsat.proofs.Leaving.{spent_next, charged_next}
use Rattle.mig_maxsat.proofs.Bounding.{written_back, charged_on}
use Rattle.mig_maxsat.proofs.charging.charged.Goals as goal

pub loop-number-preserved : goal.loop-number-preserved
loop-number-preserved c =
    let sum : SFits w64 c.add_up-lost.result = search rules in
    let same = c.as_mut_slice.ensures.value in
    let sized : length c.charge_number.new.weights ≡ length c.loop-number.weights.items = c.charge_number.ensures.sized ∙ ap length same in
    let small : magnitude c.charge_number.new.weights ≤ magnitude c.loop-number.weights.items = subst (λ ws. magnitude c.charge_number.new.weights ≤ magnitude ws) same c.charge_number.ensures.small in
    let len : c.loop-number.weights.len ≡ length c.loop-number.weights.items = search rules in
    let back : take c.loop-number.weights.len (c.charge_number.new.weights ++ drop (length c.charge_number.new.weights) c.loop-number.weights.items) ≡ c.charge_number.new.weights = ap (λ n. take n (c.charge_number.new.weights ++ drop (length c.charge_number.new.weights) c.loop-number.weights.items)) len ∙ written_back c.charge_number.new.weights c.loop-number.weights.items sized in
    let more : SFits w64 c.charge_number.result = search rules in
    let charged : (m : List Bool) → IsModel c.args.problem.now.hard m → FollowsAll m c.args.trail.now.steps → (weight c.loop-number.weights.items m +ℤ to_z w64 (of_z w64 c.charge_number.result)) ≤ℤ weight c.charge_number.new.weights m = rw (to_z-of_z w64 c.charge_number.result more) (subst (λ ws. (m : List Bool) → IsModel c.args.problem.now.hard m → FollowsAll m c.args.trail.now.steps → (weight ws m +ℤ c.charge_number.result) ≤ℤ weight c.charge_number.new.weights m) same c.charge_number.ensures.charged) in
    let on = charged_on c.args.problem.now c.args.trail.now.steps c.loop-number.weights.items c.charge_number.new.weights (to_z w64 c.loop-number.lost-bits) (to_z w64 (of_z w64 c.charge_number.result)) c.add_up-lost.result c.loop-number.invariant.charged sized small charged c.add_up-lost.ensures.most in
    let up : (v : ℕ) → weight_of c.loop-number.weights.items v ≤ℤ weight_of c.charge_number.new.weights v = subst (λ ws. (v : ℕ) → weight_of ws v ≤ℤ weight_of c.charge_number.new.weights v) same c.charge_number.ensures.each in
    let spent = spent_next c.args.problem.now.hard.clauses c.args.trail.now.steps c.loop-number.weights.items c.charge_number.new.weights c.args.numbers.now c.loop-number.number-index (get_or c.args.numbers.now c.loop-number.number-index 0) c.loop-number.invariant.spent up c.charge_number.ensures.spent (λ d. get_or_default c.args.numbers.now c.loop-number.number-index 0 d c.loop-number-test.true) in
    let number = get_or c.args.numbers.now c.loop-number.number-index 0 in
    let here : IsChargeAt c.args.trail.now.steps c.loop-number.weights.items c.charge_number.new.weights (to_z w64 (of_z w64 c.charge_number.result)) (slice_get c.args.problem.now.hard.clauses (get_or c.args.numbers.now c.loop-number.number-index 0)) = rw (to_z-of_z w64 c.charge_number.result more) (subst (λ ws. IsChargeAt c.args.trail.now.steps ws c.charge_number.new.weights c.charge_number.result (slice_get c.args.problem.now.hard.clauses (get_or c.args.numbers.now c.loop-number.number-index 0))) same c.charge_number.ensures.exact) in
    let next = charged_next c.args.problem.now.hard.clauses c.args.trail.now.steps (take c.loop-number.number-index c.args.numbers.now) number c.args.problem.now.weights (pos 0) c.loop-number.weights.items (to_z w64 c.loop-number.lost-bits) c.charge_number.new.weights (to_z w64 (of_z w64 c.charge_number.result)) c.add_up-lost.result c.loop-number.invariant.exact here c.add_up-lost.ensures.is in
    let exact : AreCharged c.args.problem.now.hard.clauses c.args.trail.now.steps (take (c.loop-number.number-index + 1) c.args.numbers.now) c.args.problem.now.weights (pos 0) c.charge_number.new.weights c.add_up-lost.result = subst (λ ns. AreCharged c.args.problem.now.hard.clauses c.args.trail.now.steps ns c.args.problem.now.weights (pos 0) c.charge_number.new.weights c.add_up-lost.result) (sym (take_more c.args.numbers.now c.loop-number.number-index 0 c.loop-number-test.true)) next in
    record {
      exact = subst (λ ws. AreCharged c.args.problem.now.hard.clauses c.args.trail.now.steps (take (c.loop-number.number-index + 1) c.args.numbers.now) c.args.problem.now.weights (pos 0) ws (to_z w64 (of_z w64 c.add_up-lost.result))) (sym back) (rw (to_z-of_z w64 c.add_up-lost.result sum) exact);
      charged = subst (λ ws. IsCharged c.args.problem.now c.args.trail.now.steps ws (to_z w64 (of_z w64 c.add_up-lost.result))) (sym back) (rw (to_z-of_z w64 c.add_up-lost.result sum) on);
      spent = λ k d lt. subst (λ ws. IfSome (slice_get c.args.problem.now.hard.clauses (get_or c.args.numbers.now k d)) (IsSpent c.args.trail.now.steps ws)) (sym back) (spent k d lt);
    }

pub returns-clause-exact : goal.returns-clause-exact
returns-clause-exact c =
    let whole = take_all c.loop-number.number-index c.args.numbers.now (omega (arith, c.loop-number-test.false)) in
    subst (λ ns. AreCharged c.args.problem.now.hard.clauses c.args.trail.now.steps ns c.args.problem.now.weights (pos 0) c.loop-number.weights.items (to_z w64 c.loop-number.lost-bits)) whole c.loop-number.invariant.exact
