use Rattle.mig_meaning.proofs.Alike.{answers-alike}
use Rattle.mig_meaning.proofs.laws.meeting_pairs_answer_alike.Goals as goal

pub returns : goal.returns
returns c = record { by = answers-alike }
