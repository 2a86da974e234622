use Rattle.mig_classes.proofs.Giving.{given-law}
use Rattle.mig_classes.proofs.laws.given_comparisons_are_true.Goals as goal

pub returns : goal.returns
returns c = given-law
