use Rattle.mig_failing.proofs.Depending.{agree_alike}
use Rattle.mig_failing.proofs.laws.called_functions_decide.Goals as goal

pub returns : goal.returns
returns c = agree_alike
