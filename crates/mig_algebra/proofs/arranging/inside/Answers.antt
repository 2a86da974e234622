use Rattle.std.proofs.Common.{◌++◌, ◌∙◌, ap, length}
use Rattle.mig_algebra.specs.Tidied.{numbers_of}
use Rattle.mig_algebra.proofs.TidiedBodies.{inside_count}
use Rattle.mig_algebra.proofs.arranging.inside.Goals as goal

pub returns-clause-count : goal.returns-clause-count
returns-clause-count c =
    ap length (c.in_ok-old.ensures ∙ ap (λ ps. c.args.old.now ++ numbers_of ps) (c.as_slice-2.ensures.value ∙ c.in_ok-slots.ensures))
    ∙ inside_count c.args.old.now c.args.vars.now
