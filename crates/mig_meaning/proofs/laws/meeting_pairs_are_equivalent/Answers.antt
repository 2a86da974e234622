use Rattle.mig_meaning.proofs.Alike.{equivalent}
use Rattle.mig_meaning.proofs.laws.meeting_pairs_are_equivalent.Goals as goal

pub returns : goal.returns
returns c = record { by = equivalent }
