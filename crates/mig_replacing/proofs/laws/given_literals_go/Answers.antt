use Rattle.mig_replacing.proofs.Going.{given-goes, repeated-goes}
use Rattle.mig_replacing.proofs.laws.given_literals_go.Goals as goal

pub returns : goal.returns
returns c = record { given = given-goes; repeated = repeated-goes }
