use Rattle.std.proofs.Common.{◌≡◌, take}
use Rattle.mig_replacing.specs.Replaced.{put_at}
use Rattle.mig_replacing.proofs.spreading.put_at.Given as goal

abbrev pub invariant-loop-alternative : goal.invariant-loop-alternative
invariant-loop-alternative l = l.lists.items ≡ put_at l.lits l.at (take l.alternative-index l.alternatives)
