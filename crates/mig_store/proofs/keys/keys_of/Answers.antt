use Rattle.std.proofs.Common.{◌≡◌, ◌+◌, ◌*◌, ◌∷◌, ◌++◌, [], sym, ap, ◌∙◌}
use Rattle.mig_store.specs.Runs.{numbers_from}
use Rattle.mig_store.proofs.Numbers.{numbers-push}
use Rattle.mig_store.proofs.keys.keys_of.Goals as goal

pub loop-n-preserved : goal.loop-n-preserved
loop-n-preserved c =
    let first = 16 * c.args.number in
    c.in_ok-push.ensures.ok ∙ (ap (λ xs. xs ++ (first + c.loop-n.n) ∷ []) c.loop-n.invariant ∙ numbers-push first c.loop-n.n)
