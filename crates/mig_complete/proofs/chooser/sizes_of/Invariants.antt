use Rattle.std.proofs.Common.{◌≡◌, take}
use Rattle.mig_sketch.specs.Choices.{sizes_of}
use Rattle.mig_complete.proofs.chooser.sizes_of.Given as goal

abbrev pub invariant-loop-hole : goal.invariant-loop-hole
invariant-loop-hole l = l.sizes.items ≡ sizes_of (take l.hole-index l.holes)
