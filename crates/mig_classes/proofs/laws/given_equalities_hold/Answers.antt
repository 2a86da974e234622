use Rattle.mig_classes.proofs.Equalities.{given-equal}
use Rattle.mig_classes.proofs.laws.given_equalities_hold.Goals as goal

pub returns : goal.returns
returns c = record { by = λ s e ls scope a b t g. given-equal s e ls t scope a b g }
