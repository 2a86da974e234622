use Rattle.mig_literals.proofs.RejoinedTried.{rejoined-offers}
use Rattle.mig_literals.proofs.laws.rejoin_is_tried.Goals as goal

pub returns : goal.returns
returns c = rejoined-offers
