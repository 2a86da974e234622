use Rattle.mig_unfolding.proofs.StageInSound.{stagein-offered}
use Rattle.mig_unfolding.proofs.laws.stagein_is_tried.Goals as goal

pub returns : goal.returns
returns c = λ p. stagein-offered p
