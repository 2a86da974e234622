use Rattle.std.proofs.Common.{◌≡◌, take}
use Rattle.mig_sketch.specs.Choices.{total}
use Rattle.mig_complete.proofs.coding.count.Given as goal

abbrev pub invariant-loop-size : goal.invariant-loop-size
invariant-loop-size l = l.sum ≡ total (take l.size-index l.sizes)
