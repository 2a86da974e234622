use Rattle.mig_maxsat.proofs.Exact.{charged_once}
use Rattle.mig_maxsat.proofs.laws.one_outcome_of_charges.Goals as goal

pub returns : goal.returns
returns c = record { one = charged_once }
