use Rattle.std.proofs.Common.{◌≡◌, take}
use Rattle.mig_search.specs.Blocking.{is_blocked_by, picks_at}
use Rattle.mig_search.proofs.blaming.picks_at.Given as goal

abbrev pub invariant-loop-number : goal.invariant-loop-number
invariant-loop-number l = l.blocked.items ≡ picks_at 0 (take l.number l.holes) (is_blocked_by l.names) (take l.number l.picks)
