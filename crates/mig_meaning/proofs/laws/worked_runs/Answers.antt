use Rattle.std.proofs.Common.{refl}
use Rattle.mig_meaning.proofs.laws.worked_runs.Goals as goal

pub returns : goal.returns
returns c = record { set = refl; delete = refl; both = refl; cases = refl; order = refl }
