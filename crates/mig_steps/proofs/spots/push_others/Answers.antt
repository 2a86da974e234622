use Rattle.std.proofs.Common.{arith}
use Rattle.std.proofs.lemmas.Grind.{common_steps}
use Rattle.mig_steps.proofs.SpotPlaces.{plain-others}
use Rattle.mig_steps.proofs.spots.push_others.Goals as goal

pub returns : goal.returns
returns c = let e = plain-others c.args.lits.now c.args.at in grind (arith, common_steps)
