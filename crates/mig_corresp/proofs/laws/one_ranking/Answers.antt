use Rattle.mig_corresp.proofs.Ordering as ordering
use Rattle.mig_corresp.proofs.laws.one_ranking.Goals as goal

pub returns : goal.returns
returns c = record { one = ordering.one_ranking }
