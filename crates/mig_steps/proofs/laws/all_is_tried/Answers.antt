use Rattle.mig_steps.proofs.OfferedPaths.{own-with, lits-offered, bodies-offered, alone-offers}
use Rattle.mig_steps.proofs.laws.all_is_tried.Goals as goal

pub returns : goal.returns
returns c = record { terms = own-with; literals = lits-offered; bodies = bodies-offered; one = alone-offers }
