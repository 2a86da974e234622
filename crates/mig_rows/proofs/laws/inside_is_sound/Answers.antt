use Rattle.mig_rows.proofs.InsideSound.{inside-sound}
use Rattle.mig_rows.proofs.laws.inside_is_sound.Goals as goal

pub returns : goal.returns
returns c = λ p invs. inside-sound p invs
