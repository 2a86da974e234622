use Rattle.mig_cli.proofs.RunPlans.{not-said}
use Rattle.mig_cli.proofs.running.calls_in.Goals as goal

pub returns-in-Ok-clause-refused : goal.returns-in-Ok-clause-refused
returns-in-Ok-clause-refused g c = not-said _ _ _ _ c.in-Ok.bytes c.calls_of.result (rw c.in-Ok.is at c.in_ok-bytes.ensures.gave) c.calls_of.ensures.refused
