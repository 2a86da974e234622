use Rattle.mig_prover.proofs.LeastSteps.{trail-law}
use Rattle.mig_prover.proofs.laws.simplified_keeps_bags.Goals as goal

pub returns : goal.returns
returns c = trail-law c.steps_keep_bags.ensures
