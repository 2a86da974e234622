use Rattle.std.proofs.Common.{◌≡◌, take}
use Rattle.mig_corresp.specs.Coding.{picked}
use Rattle.mig_corresp.proofs.pairing.picked.Given as goal

abbrev pub invariant-loop-i : goal.invariant-loop-i
invariant-loop-i l = l.list ≡ picked (take l.i l.pairs) l.values
