use Rattle.std.proofs.Common.{◌≡◌, take}
use Rattle.mig_invariant.specs.Images.{images_among}
use Rattle.mig_invariant.proofs.corresp.Corr.images.Given as goal

abbrev pub invariant-loop-target : goal.invariant-loop-target
invariant-loop-target l = l.list ≡ images_among (take l.target-index l.columns) l.self l.source
