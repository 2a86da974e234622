use Rattle.std.proofs.Common.{◌≡◌, ◌++◌, take}
use Rattle.std.specs.List.{flat_map}
use Rattle.mig_sketch.specs.Values.{given_to}
use Rattle.mig_sketch.proofs.values.add_carried.Given as goal

abbrev pub invariant-loop-a : goal.invariant-loop-a
invariant-loop-a l = l.list.items ≡ l.fn.list.items ++ flat_map (given_to l.old l.one.images l.one.source) (take l.a-index l.values)
