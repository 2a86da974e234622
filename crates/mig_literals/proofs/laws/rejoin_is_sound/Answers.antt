use Rattle.mig_literals.proofs.RejoinedSound.{rejoined-sound}
use Rattle.mig_literals.proofs.laws.rejoin_is_sound.Goals as goal

pub returns : goal.returns
returns c = λ p invs. rejoined-sound p invs
