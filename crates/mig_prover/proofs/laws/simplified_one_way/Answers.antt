use Rattle.mig_prover.proofs.OneWay.{one-way}
use Rattle.mig_prover.proofs.laws.simplified_one_way.Goals as goal

pub returns : goal.returns
returns c = one-way
