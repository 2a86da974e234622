use Rattle.std.proofs.Common.{◌≡◌, ◌+◌, ◌<◌, ◌^◌, take}
use Rattle.mig_maxsat.specs.Heaviest.{magnitude}
use Rattle.mig_maxsat.proofs.weighted.is_light.Given as goal

abbrev pub invariant-loop-weight : goal.invariant-loop-weight
invariant-loop-weight l = (l.left + magnitude (take l.weight-index l.weights) ≡ 2 ^ 62) × (0 < l.left)
