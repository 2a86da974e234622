use Rattle.mig_obligations.proofs.ProperObligations.{fit-proper}
use Rattle.mig_obligations.proofs.laws.obligations_are_proper.Goals as goal

pub returns : goal.returns
returns c = record { by = fit-proper }
