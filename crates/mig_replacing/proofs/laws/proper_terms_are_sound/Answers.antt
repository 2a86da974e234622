use Rattle.mig_replacing.proofs.Sound.{proper-sound}
use Rattle.mig_replacing.proofs.laws.proper_terms_are_sound.Goals as goal

pub returns : goal.returns
returns c = record { by = proper-sound }
