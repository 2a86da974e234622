use Rattle.mig_replacing.proofs.Replacing.{literal-replaced, body-replaced}
use Rattle.mig_replacing.proofs.laws.replacing_keeps_the_bag.Goals as goal

pub returns : goal.returns
returns c = record { literal = literal-replaced; body = body-replaced }
