use Rattle.mig_rows.proofs.LosslessSound.{lossless-sound}
use Rattle.mig_rows.proofs.laws.lossless_is_sound.Goals as goal

pub returns : goal.returns
returns c = λ p invs. lossless-sound p invs
