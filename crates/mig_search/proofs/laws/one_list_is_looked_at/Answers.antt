use Rattle.mig_search.proofs.OneLooked.{one_looked}
use Rattle.mig_search.proofs.OneOutcome.{one_entry}
use Rattle.mig_search.proofs.laws.one_list_is_looked_at.Goals as goal

pub returns : goal.returns
returns c = λ job corr tests plan. one_looked job corr tests plan (one_entry job tests corr)
