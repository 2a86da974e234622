use Rattle.mig_literals.proofs.SameSound.{same-sound}
use Rattle.mig_literals.proofs.laws.same_is_sound.Goals as goal

pub returns : goal.returns
returns c = λ p invs. same-sound p invs
