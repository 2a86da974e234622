use Rattle.std.proofs.Common.{[], ◌∷◌, ◌++◌, take, sym, ap, ◌∙◌, append_assoc}
use Rattle.std.specs.Prelude.{filter}
use Rattle.mig_sketch.specs.Imaging.{image_sets}
use Rattle.mig_sketch.specs.Needs.{has_any}
use Rattle.mig_sketch.proofs.Steps.{any-step}
use Rattle.mig_sketch.proofs.images.add_any.Goals as goal

pub loop-one-preserved : goal.loop-one-preserved
loop-one-preserved c =
    let xs = c.args.list.now in
    let i = c.loop-one.one-index in
    let x = c.one-item.result in
    c.in_ok-add_nonempty.ensures
    ∙ ap (λ t. t ++ filter has_any (x.images ∷ [])) c.loop-one.invariant
    ∙ append_assoc c.args.sets.now (filter has_any (image_sets (take i xs))) (filter has_any (x.images ∷ []))
    ∙ ap (λ t. c.args.sets.now ++ t) (sym (any-step xs i x c.loop-one-test.true c.one-item.is))
