use Rattle.std.proofs.Common.{arith, refl}
use Rattle.std.proofs.lemmas.Grind.{common_steps}
use Rattle.mig_steps.proofs.Counted.{bounded-any}
use Rattle.mig_steps.proofs.limits.+bounding.Goals as goal

pub is_lit_bounded-returns-then-depth-gt0 : goal.is_lit_bounded-returns-then-depth-gt0
is_lit_bounded-returns-then-depth-gt0 t c =
    bounded-any c.args.depth c.args.scope _ _ c.args.lit.now c.in-Any.held c.in-Any.inner _ _ (grind (arith, common_steps)) (grind (arith, common_steps)) refl (grind (arith, common_steps)) c.in-Any.is c.as_slice.ensures c.are_lits_bounded.ensures
