use Rattle.mig_rows.proofs.PartedSound.{parted-sound}
use Rattle.mig_rows.proofs.laws.apart_is_sound.Goals as goal

pub returns : goal.returns
returns c = λ p invs. parted-sound p invs
