use Rattle.mig_rows.proofs.NeverSound.{never-sound}
use Rattle.mig_rows.proofs.laws.never_is_sound.Goals as goal

pub returns : goal.returns
returns c = λ p invs. never-sound p invs
