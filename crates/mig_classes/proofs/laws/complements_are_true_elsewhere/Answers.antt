use Rattle.mig_classes.proofs.Contradicted.{complement-law}
use Rattle.mig_classes.proofs.laws.complements_are_true_elsewhere.Goals as goal

pub returns : goal.returns
returns c = complement-law
