use Rattle.mig_classes.proofs.Contradicted.{contradiction-law}
use Rattle.mig_classes.proofs.laws.contradictory_lists_are_never_true.Goals as goal

pub returns : goal.returns
returns c = contradiction-law
