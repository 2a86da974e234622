use Rattle.mig_search.proofs.OneOutcome.{one_outcome}
use Rattle.mig_search.proofs.laws.one_outcome.Goals as goal

pub returns : goal.returns
returns c = one_outcome
