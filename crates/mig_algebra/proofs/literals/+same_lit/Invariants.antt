use Rattle.std.proofs.Common.{◌≡◌, take}
use Rattle.mig_algebra.proofs.literals.+same_lit.Given as goal

abbrev pub invariant-same_lits-loop-i : goal.invariant-same_lits-loop-i
invariant-same_lits-loop-i l = take l.i l.left ≡ take l.i l.right
