use Rattle.mig_obligations.proofs.Reached.{met-alike}
use Rattle.mig_obligations.proofs.laws.met_obligations_answer_alike.Goals as goal

pub returns : goal.returns
returns c = record { by = met-alike }
