use Rattle.mig_folding.proofs.FoldOffered.{fold-offered}
use Rattle.mig_folding.proofs.laws.fold_is_tried.Goals as goal

pub returns : goal.returns
returns c = λ invs. fold-offered invs
