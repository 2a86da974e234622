use Rattle.mig_unfolding.proofs.StageSound.{stage-sound}
use Rattle.mig_unfolding.proofs.laws.stage_is_sound.Goals as goal

pub returns : goal.returns
returns c = λ p invs fit. stage-sound p invs fit
