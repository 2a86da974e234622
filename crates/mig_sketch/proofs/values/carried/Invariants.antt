use Rattle.std.proofs.Common.{◌≡◌, take}
use Rattle.std.specs.List.{flat_map}
use Rattle.mig_sketch.specs.Imaging.{carried_to}
use Rattle.mig_sketch.proofs.values.carried.Given as goal

abbrev pub invariant-loop-one : goal.invariant-loop-one
invariant-loop-one l = l.list.items ≡ flat_map (carried_to l.old l.values) (take l.one-index l.columns)
