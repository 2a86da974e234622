use Rattle.mig_spelling.proofs.Completions.{completion-spelled}
use Rattle.mig_spelling.proofs.laws.completions_are_spelled.Goals as goal

pub returns : goal.returns
returns c = completion-spelled
