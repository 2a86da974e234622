use Rattle.mig_unfolding.proofs.StageInSound.{stagein-sound}
use Rattle.mig_unfolding.proofs.laws.stagein_is_sound.Goals as goal

pub returns : goal.returns
returns c = λ p invs fit. stagein-sound p invs fit
