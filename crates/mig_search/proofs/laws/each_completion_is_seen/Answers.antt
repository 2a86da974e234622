use Rattle.mig_search.proofs.Everywhere.{each_completion}
use Rattle.mig_search.proofs.laws.each_completion_is_seen.Goals as goal

pub returns : goal.returns
returns c = each_completion
