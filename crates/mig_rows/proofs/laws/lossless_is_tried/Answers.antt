use Rattle.mig_rows.proofs.LosslessSound.{lossless-offered}
use Rattle.mig_rows.proofs.laws.lossless_is_tried.Goals as goal

pub returns : goal.returns
returns c = λ invs. lossless-offered invs
