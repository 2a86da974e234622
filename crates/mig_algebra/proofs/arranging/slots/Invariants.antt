use Rattle.std.proofs.Common.{◌≡◌, ◌+◌, ◌++◌, drop}
use Rattle.mig_algebra.specs.Tidied.{slots}
use Rattle.mig_algebra.proofs.arranging.slots.Given as goal

abbrev pub invariant-loop-i : goal.invariant-loop-i
invariant-loop-i l = slots l.first l.vars ≡ l.list.items ++ slots (l.first + l.i) (drop l.i l.vars)
