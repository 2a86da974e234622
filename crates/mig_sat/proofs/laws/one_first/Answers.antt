use Rattle.mig_sat.proofs.Unique.{one_first_model}
use Rattle.mig_sat.proofs.laws.one_first.Goals as goal

pub returns : goal.returns
returns c = record { one = one_first_model }
