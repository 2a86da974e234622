use Rattle.mig_rows.proofs.MergedSound.{merged-sound}
use Rattle.mig_rows.proofs.laws.merge_is_sound.Goals as goal

pub returns : goal.returns
returns c = λ p invs. merged-sound p invs
