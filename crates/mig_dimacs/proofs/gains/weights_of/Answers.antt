use Rattle.std.proofs.Common.{◌≡◌, ◌+◌, ◌<◌, ℤ, ◌++◌, pos, false, List, [], length, take, drop, get_or, replicate, ap, sym, ◌∙◌, subst, rules}
use Rattle.std.proofs.lemmas.List.{length-set}
use Rattle.mig_maxsat.proofs.Bounding.{written_back}
use Rattle.mig_dimacs.specs.Gains.{weighed, IsBalanced}
use Rattle.mig_dimacs.proofs.Balance.{balanced_none, balanced_on}
use Rattle.mig_dimacs.proofs.gains.weights_of.Goals as goal

pub loop-soft-init : goal.loop-soft-init
loop-soft-init c =
    let zeros : c.in_ok-weights.weights.items ≡ replicate c.args.problem.now.hard.vars (pos 0) = search rules in
    subst (λ (ws : List ℤ). IsBalanced c.args.problem.now.hard.vars [] ws) (sym zeros) (balanced_none c.args.problem.now.hard.vars)

pub loop-soft-preserved : goal.loop-soft-preserved
loop-soft-preserved c =
    let item = get_or c.args.problem.now.soft c.loop-soft.soft-index (record { lit = record { var = 0; positive = false }; weight = 0 }) in
    let same = c.as_mut_slice.ensures.value in
    let is : c.add.new.weights ≡ weighed c.loop-soft.weights.items item = c.add.ensures ∙ ap (λ xs. weighed c.as_mut_slice.result.now (get_or xs c.loop-soft.soft-index (record { lit = record { var = 0; positive = false }; weight = 0 }))) c.as_slice-soft-items.ensures ∙ ap (λ ws. weighed ws item) same in
    let sized : length c.add.new.weights ≡ length c.loop-soft.weights.items = ap length is ∙ length-set c.loop-soft.weights.items item.lit.var _ in
    let len : c.loop-soft.weights.len ≡ length c.loop-soft.weights.items = search rules in
    let back : take c.loop-soft.weights.len (c.add.new.weights ++ drop (length c.add.new.weights) c.loop-soft.weights.items) ≡ c.add.new.weights = ap (λ n. take n (c.add.new.weights ++ drop (length c.add.new.weights) c.loop-soft.weights.items)) len ∙ written_back c.add.new.weights c.loop-soft.weights.items sized in
    let lt : c.loop-soft.soft-index < length c.args.problem.now.soft = subst (λ xs. c.loop-soft.soft-index < length xs) c.as_slice-soft-items.ensures c.loop-soft-test.true in
    let on = balanced_on c.args.problem.now.hard.vars c.args.problem.now.soft c.loop-soft.soft-index (record { lit = record { var = 0; positive = false }; weight = 0 }) c.loop-soft.weights.items c.loop-soft.invariant lt (c.requires.soft c.loop-soft.soft-index (record { lit = record { var = 0; positive = false }; weight = 0 }) lt) in
    subst (λ ws. IsBalanced c.args.problem.now.hard.vars (take (c.loop-soft.soft-index + 1) c.args.problem.now.soft) ws) (sym (back ∙ is)) on
