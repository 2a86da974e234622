use Rattle.std.proofs.Common.{◌≡◌, ◌+◌, drop}
use Rattle.mig_meaning.specs.Lists.{place}
use Rattle.mig_algebra.proofs.arranging.new_number.Given as goal

abbrev pub invariant-loop-i : goal.invariant-loop-i
invariant-loop-i l = place l.old l.var ≡ l.i + place (drop l.i l.old) l.var
