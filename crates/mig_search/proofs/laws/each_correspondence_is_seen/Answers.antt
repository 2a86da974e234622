use Rattle.mig_search.proofs.Taken.{taken_seen}
use Rattle.mig_search.proofs.laws.each_correspondence_is_seen.Goals as goal

pub returns : goal.returns
returns c = taken_seen
