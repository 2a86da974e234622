use Rattle.mig_rows.proofs.AloneSound.{alone-offered}
use Rattle.mig_rows.proofs.laws.alone_is_tried.Goals as goal

pub returns : goal.returns
returns c = λ invs. alone-offered invs
