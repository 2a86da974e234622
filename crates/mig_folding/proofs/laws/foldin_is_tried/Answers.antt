use Rattle.mig_folding.proofs.FoldinOffered.{foldin-offered}
use Rattle.mig_folding.proofs.laws.foldin_is_tried.Goals as goal

pub returns : goal.returns
returns c = λ invs. foldin-offered invs
