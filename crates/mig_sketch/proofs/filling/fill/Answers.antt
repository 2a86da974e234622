use Rattle.std.proofs.Common.{◌<◌, ◌≤◌, ℕ, List, [], ◌∷◌, ◌++◌, length, get_or, subst, sym, ap, ◌∙◌, arith}
use Rattle.std.proofs.lemmas.List.{take_all}
use Rattle.mig_base.specs.Lists.{numbered}
use Rattle.mig_schema.specs.declared.programs.Function.{Function}
use Rattle.mig_sketch.specs.declared.plans.Hole.{Hole}
use Rattle.mig_sketch.specs.Completed.{IsCompletion}
use Rattle.mig_sketch.specs.Filling.{filled_function}
use Rattle.mig_sketch.proofs.Completing.{completed}
use Rattle.mig_sketch.proofs.Picked.{filled-more}
use Rattle.mig_sketch.proofs.filling.fill.Goals as goal

pub loop-n-preserved : goal.loop-n-preserved
loop-n-preserved c =
    let items = c.as_slice-function-items.ensures in
    let size = ap (λ (xs : List Function). length xs) items in
    let lt : c.loop-n.n < length c.args.sketch.now.functions = omega (arith, c.loop-n-test.true, size) in
    let is = c.function-item.is ∙ ap (λ (xs : List Function). get_or xs c.loop-n.n c.function-item.result) items in
    c.in_ok-push.ensures.ok
    ∙ ap (λ (f : Function). c.loop-n.functions ++ f ∷ [])
    (c.in_ok-filled_function.ensures
    ∙ ap (λ (hs : List Hole). filled_function hs c.as_slice-picks.result.now c.in_ok-number.field-0 c.function-item.result) c.as_slice-holes.ensures
    ∙ ap (λ (ps : List ℕ). filled_function c.args.sketch.now.holes ps c.in_ok-number.field-0 c.function-item.result) c.as_slice-picks.ensures
    ∙ ap (λ (n : ℕ). filled_function c.args.sketch.now.holes c.args.choice.now.picks n c.function-item.result) c.in_ok-number.ensures.ok)
    ∙ ap (λ (fs : List Function). fs ++ filled_function c.args.sketch.now.holes c.args.choice.now.picks c.loop-n.n c.function-item.result ∷ []) c.loop-n.invariant
    ∙ sym (filled-more c.args.sketch.now.holes c.args.choice.now.picks c.args.sketch.now.functions c.loop-n.n c.function-item.result lt is)

pub returns-clause-completes : goal.returns-clause-completes
returns-clause-completes c =
    let size = ap (λ (xs : List Function). length xs) c.as_slice-function-items.ensures in
    let all : length c.args.sketch.now.functions ≤ c.loop-n.n = omega (arith, c.loop-n-test.false, size) in
    let whole = c.loop-n.invariant ∙ ap (λ (fs : List Function). numbered (filled_function c.args.sketch.now.holes c.args.choice.now.picks) 0 fs) (take_all c.loop-n.n c.args.sketch.now.functions all) in
    λ job corr sound are. subst (λ (fs : List Function). IsCompletion job (record { functions = fs })) (sym whole) (completed job corr sound c.args.sketch.now c.args.choice.now.picks c.requires are)
