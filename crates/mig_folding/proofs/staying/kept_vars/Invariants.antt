use Rattle.std.proofs.Common.{◌≡◌, ◌+◌, ◌++◌, drop}
use Rattle.mig_algebra.specs.Tidied.{vars_of}
use Rattle.mig_folding.specs.Writing.{stay}
use Rattle.mig_folding.proofs.staying.kept_vars.Given as goal

abbrev pub invariant-loop-i : goal.invariant-loop-i
invariant-loop-i l = vars_of (stay l.named l.base l.vars) ≡ l.kept.items ++ vars_of (stay l.named (l.base + l.i) (drop l.i l.vars))
