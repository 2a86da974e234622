use Rattle.std.proofs.Common.{◌≡◌, ◌++◌, ◌∷◌, [], get_or, length, take, subst, sym, ap, ◌∙◌, ◌<◌, ◌+◌}
use Rattle.std.proofs.lemmas.List.{take_more}
use Rattle.mig_failing.proofs.Blamed.{one_more_blamed}
use Rattle.mig_failing.proofs.blaming.blame.Goals as goal

pub loop-call-preserved : goal.loop-call-preserved
loop-call-preserved c =
    let calls = c.args.calls.now.calls in
    let k = c.loop-call.call-index in
    let i = c.call-item.result in
    let l : k < length calls = subst (λ xs. k < length xs) c.as_slice-call-items.ensures c.loop-call-test.true in
    let is : i ≡ get_or calls k i = c.call-item.is ∙ ap (λ xs. get_or xs k i) c.as_slice-call-items.ensures in
    let more : take (k + 1) calls ≡ take k calls ++ i ∷ [] = take_more calls k i l ∙ ap (λ x. take k calls ++ x ∷ []) (sym is) in
    rw (c.in_ok-functions.ensures, c.as_slice.ensures, more) (one_more_blamed (take k calls) i c.loop-call.functions c.loop-call.invariant)
