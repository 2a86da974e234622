use Rattle.mig_obligations.proofs.Reached.{met-equivalent}
use Rattle.mig_obligations.proofs.laws.met_obligations_make_equivalent.Goals as goal

pub returns : goal.returns
returns c = record { by = met-equivalent }
