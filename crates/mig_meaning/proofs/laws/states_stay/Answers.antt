use Rattle.mig_meaning.proofs.TypedWrites.{state-law}
use Rattle.mig_meaning.proofs.laws.states_stay.Goals as goal

pub returns : goal.returns
returns c = record { by = state-law }
