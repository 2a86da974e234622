use Rattle.mig_unfolding.proofs.StageSound.{stage-offered}
use Rattle.mig_unfolding.proofs.laws.stage_is_tried.Goals as goal

pub returns : goal.returns
returns c = λ p. stage-offered p
