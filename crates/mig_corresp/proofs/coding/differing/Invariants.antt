use Rattle.std.proofs.Common.{◌≡◌, take}
use Rattle.mig_corresp.specs.Coding.{differing}
use Rattle.mig_corresp.proofs.coding.differing.Given as goal

abbrev pub invariant-loop-n : goal.invariant-loop-n
invariant-loop-n l = l.clause.items ≡ differing (take l.n l.values)
