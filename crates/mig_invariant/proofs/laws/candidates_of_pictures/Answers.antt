use Rattle.std.proofs.Common.{refl}
use Rattle.mig_invariant.proofs.laws.candidates_of_pictures.Goals as goal

pub returns : goal.returns
returns c = record { twelve = refl }
