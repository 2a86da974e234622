use Rattle.mig_spelling.proofs.Texts.{text-spelled}
use Rattle.mig_spelling.proofs.laws.job_texts_are_spelled.Goals as goal

pub returns : goal.returns
returns c = text-spelled
