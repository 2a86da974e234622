use Rattle.std.proofs.Common.{◌≡◌, ◌<◌, ◌+◌, ◌++◌, ◌∷◌, [], length, take, sym, ap, ◌∙◌, subst, arith}
use Rattle.std.proofs.lemmas.List.{take_more}
use Rattle.mig_prover.specs.Tracing.{AreTracesOf}
use Rattle.mig_prover.proofs.Tracings.{traces-more}
use Rattle.mig_prover.proofs.tracing.traces_between.Goals as goal

pub loop-n-preserved : goal.loop-n-preserved
loop-n-preserved c =
    let s = c.args.job.now.source in
    let s' = c.args.job.now.target in
    let facts = c.args.facts.now.list in
    let fs = c.args.sources.now in
    let gs = c.args.targets.now in
    let n = c.loop-n.n in
    let f = c.index-sources-n.result in
    let g = c.index-targets-n.result in
    let xs = c.loop-n.traces.items in
    let x = c.in_ok-trace_between.field-0 in
    let test : n < length fs = c.loop-n-test.true in
    let same : length fs ≡ length gs = c.requires in
    let test' : n < length gs = omega (arith, test, same) in
    let olds : take (n + 1) fs ≡ take n fs ++ f ∷ [] = take_more fs n f c.loop-n-test.true ∙ ap (λ y. take n fs ++ y ∷ []) (sym c.index-sources-n.is) in
    let news : take (n + 1) gs ≡ take n gs ++ g ∷ [] = take_more gs n g test' ∙ ap (λ y. take n gs ++ y ∷ []) (sym c.index-targets-n.is) in
    subst (AreTracesOf s s' facts (take (n + 1) fs) (take (n + 1) gs)) (sym c.in_ok-push.ensures.items)
    (subst (λ ys. AreTracesOf s s' facts ys (take (n + 1) gs) (xs ++ x ∷ [])) (sym olds)
    (subst (λ ys. AreTracesOf s s' facts (take n fs ++ f ∷ []) ys (xs ++ x ∷ [])) (sym news)
    (traces-more s s' facts (take n fs) (take n gs) xs f g x c.loop-n.invariant c.in_ok-trace_between.ensures)))
