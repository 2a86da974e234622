use Rattle.mig_search.proofs.Differs.{refuted_differs}
use Rattle.mig_search.proofs.laws.refuted_programs_differ.Goals as goal

pub returns : goal.returns
returns c = refuted_differs
