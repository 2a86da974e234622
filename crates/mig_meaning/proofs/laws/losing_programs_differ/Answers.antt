use Rattle.mig_meaning.proofs.Unequal.{lost-row, other-key}
use Rattle.mig_meaning.proofs.laws.losing_programs_differ.Goals as goal

pub returns : goal.returns
returns c = record { row = lost-row; key = other-key }
