use Rattle.std.proofs.Common.{◌≡◌, take}
use Rattle.mig_base.specs.Lists.{numbered}
use Rattle.mig_sketch.specs.Filling.{filled_function}
use Rattle.mig_sketch.proofs.filling.fill.Given as goal

abbrev pub invariant-loop-n : goal.invariant-loop-n
invariant-loop-n l = l.functions ≡ numbered (filled_function l.sketch.holes l.choice.picks) 0 (take l.n l.sketch.functions)
