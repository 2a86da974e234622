use Rattle.mig_replacing.proofs.Hosted.{bodies-counted}
use Rattle.mig_replacing.proofs.laws.bodies_are_met_by_counts.Goals as goal

pub returns : goal.returns
returns c = bodies-counted
