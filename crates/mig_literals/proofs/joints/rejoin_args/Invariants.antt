use Rattle.std.proofs.Common.{◌≡◌, ◌++◌, ◌+◌, drop}
use Rattle.mig_literals.specs.Rejoined.{later_joints}
use Rattle.mig_literals.proofs.joints.rejoin_args.Given as goal

abbrev pub invariant-loop-k : goal.invariant-loop-k
invariant-loop-k l = later_joints l.term (l.n + 1) l.later ≡ l.all ++ later_joints l.term (l.n + 1 + l.k) (drop l.k l.later)
