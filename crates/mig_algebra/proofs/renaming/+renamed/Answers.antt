use Rattle.std.proofs.Common.{refl, ◌∙◌}
use Rattle.mig_algebra.proofs.Bodies.{any_made}
use Rattle.mig_algebra.proofs.renaming.+renamed.Goals as goal

pub renamed_lit-returns-in_ok-renamed_lits-in-Any : goal.renamed_lit-returns-in_ok-renamed_lits-in-Any
renamed_lit-returns-in_ok-renamed_lits-in-Any g t c =
    any_made _ _ c.args.lit.now c.in-Any.held c.in-Any.inner _ _ _ _ c.in-Any.is c.in_ok-vars-in-Any.ensures refl (c.from_vec-lits.ensures ∙ c.in_ok-renamed_lits-in-Any.ensures) c.as_slice.ensures
