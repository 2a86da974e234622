use Rattle.mig_folding.proofs.FoundTried.{found-offered}
use Rattle.mig_folding.proofs.found_laws.found_is_tried.Goals as goal

pub returns : goal.returns
returns c = found-offered
