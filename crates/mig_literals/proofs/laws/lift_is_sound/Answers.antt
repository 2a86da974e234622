use Rattle.mig_literals.proofs.LiftedSound.{lifted-sound}
use Rattle.mig_literals.proofs.laws.lift_is_sound.Goals as goal

pub returns : goal.returns
returns c = λ p invs. lifted-sound p invs
