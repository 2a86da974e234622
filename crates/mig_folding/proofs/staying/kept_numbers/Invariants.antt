use Rattle.std.proofs.Common.{◌≡◌, ◌+◌, ◌++◌, drop}
use Rattle.mig_algebra.specs.Tidied.{numbers_of}
use Rattle.mig_folding.specs.Writing.{stay}
use Rattle.mig_folding.proofs.staying.kept_numbers.Given as goal

abbrev pub invariant-loop-i : goal.invariant-loop-i
invariant-loop-i l = numbers_of (stay l.named l.base l.vars) ≡ l.kept.items ++ numbers_of (stay l.named (l.base + l.i) (drop l.i l.vars))
