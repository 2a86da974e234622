use Rattle.mig_rows.proofs.InsideSound.{inside-offered}
use Rattle.mig_rows.proofs.laws.inside_is_tried.Goals as goal

pub returns : goal.returns
returns c = λ invs. inside-offered invs
