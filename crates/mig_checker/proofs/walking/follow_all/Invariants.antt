use Rattle.std.proofs.Common.{◌≡◌, take}
use Rattle.std.specs.Prelude.{Some}
use Rattle.mig_obligations.specs.Pairs.{sides_of}
use Rattle.mig_rules.specs.Follow.{follow}
use Rattle.mig_obligations.specs.Replay.{replay}
use Rattle.mig_checker.proofs.walking.follow_all.Given as goal

abbrev pub invariant-loop-s : goal.invariant-loop-s
invariant-loop-s l = replay (follow (sides_of l.facts.pair.now) l.facts.invariants.now.list) (take l.s l.steps) l.fn.start ≡ Some l.current
