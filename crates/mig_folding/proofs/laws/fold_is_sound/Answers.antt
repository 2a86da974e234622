use Rattle.mig_folding.proofs.FoldSound.{fold-sound}
use Rattle.mig_folding.proofs.laws.fold_is_sound.Goals as goal

pub returns : goal.returns
returns c = λ p invs fit. fold-sound p invs fit
