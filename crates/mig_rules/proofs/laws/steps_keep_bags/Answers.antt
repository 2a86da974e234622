use Rattle.mig_rules.proofs.FollowSound.{follow-law}
use Rattle.mig_rules.proofs.laws.steps_keep_bags.Goals as goal

pub returns : goal.returns
returns c = follow-law
