use Rattle.mig_rules.proofs.Silent.{quiet-after}
use Rattle.mig_rules.proofs.laws.quiet_terms_stay_quiet.Goals as goal

pub returns : goal.returns
returns c = record { after = quiet-after }
