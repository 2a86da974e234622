use Rattle.mig_literals.proofs.SplitSound.{split-sound}
use Rattle.mig_literals.proofs.laws.split_is_sound.Goals as goal

pub returns : goal.returns
returns c = λ p invs. split-sound p invs
