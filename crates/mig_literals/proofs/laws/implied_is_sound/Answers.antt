use Rattle.mig_literals.proofs.ImpliedSound.{implied-sound}
use Rattle.mig_literals.proofs.laws.implied_is_sound.Goals as goal

pub returns : goal.returns
returns c = λ p invs. implied-sound p invs
