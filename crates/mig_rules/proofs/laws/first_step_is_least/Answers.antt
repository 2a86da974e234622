use Rattle.mig_rules.proofs.FirstStep.{finds-first}
use Rattle.mig_rules.proofs.laws.first_step_is_least.Goals as goal

pub returns : goal.returns
returns c = λ p invs e. finds-first p invs e
