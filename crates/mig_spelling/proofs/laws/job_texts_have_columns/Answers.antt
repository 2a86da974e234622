use Rattle.mig_spelling.proofs.Columns.{text-columns}
use Rattle.mig_spelling.proofs.laws.job_texts_have_columns.Goals as goal

pub returns : goal.returns
returns c = text-columns
