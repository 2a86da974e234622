use Rattle.mig_rows.proofs.AloneSound.{alone-sound}
use Rattle.mig_rows.proofs.laws.alone_is_sound.Goals as goal

pub returns : goal.returns
returns c = λ p invs. alone-sound p invs
