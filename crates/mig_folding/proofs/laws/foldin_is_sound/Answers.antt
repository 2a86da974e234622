use Rattle.mig_folding.proofs.FoldinSound.{foldin-sound}
use Rattle.mig_folding.proofs.laws.foldin_is_sound.Goals as goal

pub returns : goal.returns
returns c = λ p invs fit. foldin-sound p invs fit
