use Rattle.mig_corresp.proofs.Ordering as ordering
use Rattle.mig_corresp.proofs.laws.ranked_in_turn.Goals as goal

pub returns : goal.returns
returns c = record { begins = ordering.ranked_in_turn }
