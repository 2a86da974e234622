use Rattle.mig_trees.proofs.Listed.{listed_join}
use Rattle.mig_trees.proofs.laws.listed_joins_are_shaped.Goals as goal

pub returns : goal.returns
returns c = record { shaped = listed_join }
