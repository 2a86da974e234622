use Rattle.mig_literals.proofs.DeadSound.{dead-sound}
use Rattle.mig_literals.proofs.laws.dead_is_sound.Goals as goal

pub returns : goal.returns
returns c = λ p invs. dead-sound p invs
