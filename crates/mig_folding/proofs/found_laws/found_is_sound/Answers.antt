use Rattle.mig_folding.proofs.FoundSound.{found-sound}
use Rattle.mig_folding.proofs.found_laws.found_is_sound.Goals as goal

pub returns : goal.returns
returns c = λ p invs. found-sound p invs
