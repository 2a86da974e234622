use Rattle.std.proofs.Common.{◌≡◌, ◌<◌, ◌+◌, ◌++◌, ◌∷◌, [], length, take, sym, ap, ◌∙◌, subst, arith}
use Rattle.std.proofs.lemmas.List.{take_more, length-take-le}
use Rattle.mig_obligations.specs.Pairs.{sides_of}
use Rattle.mig_prover.specs.Tracing.{AreTraced}
use Rattle.mig_prover.proofs.Tracings.{traced-more}
use Rattle.mig_prover.proofs.tracing.entries_of.Goals as goal

pub loop-k-preserved : goal.loop-k-preserved
loop-k-preserved c =
    let p = sides_of c.args.facts.now.pair.now in
    let facts = c.args.facts.now.invariants.now.list in
    let list = c.args.list.now in
    let k = c.loop-k.k in
    let item = c.index-list-k.result in
    let test : k < length list = c.loop-k-test.true in
    let whole : take (k + 1) list ≡ take k list ++ item ∷ [] = take_more list k item c.loop-k-test.true ∙ ap (λ x. take k list ++ x ∷ []) (sym c.index-list-k.is) in
    let long : length (take k list) ≡ k = length-take-le k list (omega (arith, test)) in
    subst (AreTraced p facts 0 (take (k + 1) list)) (sym c.in_ok-push.ensures.items) (subst (λ xs. AreTraced p facts 0 xs (c.loop-k.entries.items ++ c.in_ok-entry_of.field-0 ∷ [])) (sym whole)
    (traced-more p facts 0 k (take k list) c.loop-k.entries.items item c.in_ok-entry_of.field-0 (omega (arith, long)) c.loop-k.invariant c.in_ok-entry_of.ensures))
