use Rattle.mig_replacing.proofs.Fitting.{replaced-proper}
use Rattle.mig_replacing.proofs.laws.replacing_keeps_terms_proper.Goals as goal

pub returns : goal.returns
returns c = record { by = replaced-proper }
