use Rattle.std.proofs.Common.{arith}
use Rattle.std.proofs.lemmas.Grind.{common_steps}
use Rattle.mig_steps.proofs.Counted.{left-empty, spent-any}
use Rattle.mig_steps.proofs.limits.+counting.Goals as goal

pub spend_lit-returns-in_err-rest : goal.spend_lit-returns-in_err-rest
spend_lit-returns-in_err-rest t c = grind (arith, common_steps, left-empty c.args.budget c.args.lit.now)

pub spend_lit-returns-in-Any : goal.spend_lit-returns-in-Any
spend_lit-returns-in-Any t c =
    spent-any c.args.budget c.in_ok-rest.rest c.args.lit.now c.in-Any.held c.in-Any.inner _ _ (grind (arith, common_steps)) (grind (arith, common_steps)) c.in-Any.is c.as_slice.ensures c.spend_lits.ensures
