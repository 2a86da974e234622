use Rattle.mig_search.proofs.Passed.{passed_fails}
use Rattle.mig_search.proofs.laws.passed_over_completions_fail.Goals as goal

pub returns : goal.returns
returns c = passed_fails
