use Rattle.mig_failing.proofs.Equivalent.{alike_agree}
use Rattle.mig_failing.proofs.laws.equivalent_programs_agree.Goals as goal

pub returns : goal.returns
returns c = alike_agree
