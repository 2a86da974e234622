use Rattle.mig_rows.proofs.MergedSound.{merged-offered}
use Rattle.mig_rows.proofs.laws.merge_is_tried.Goals as goal

pub returns : goal.returns
returns c = λ invs. merged-offered invs
