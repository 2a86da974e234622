use Rattle.std.proofs.Common.{◌≡◌, take, map}
use Rattle.mig_sketch.specs.Leading.{led}
use Rattle.mig_sketch.proofs.values.led.Given as goal

abbrev pub invariant-loop-a : goal.invariant-loop-a
invariant-loop-a l = l.list.items ≡ map (led l.tree) (take l.a-index l.values)
