use Rattle.mig_trees.proofs.OneAnswer as once
use Rattle.mig_trees.proofs.laws.one_answer.Goals as goal

pub returns : goal.returns
returns c = record { one = once.one_answer }
