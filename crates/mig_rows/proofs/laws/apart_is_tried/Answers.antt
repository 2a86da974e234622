use Rattle.mig_rows.proofs.PartedSound.{parted-offered}
use Rattle.mig_rows.proofs.laws.apart_is_tried.Goals as goal

pub returns : goal.returns
returns c = λ invs. parted-offered invs
