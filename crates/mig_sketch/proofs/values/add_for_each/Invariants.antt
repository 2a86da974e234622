use Rattle.std.proofs.Common.{◌≡◌, ◌++◌, take}
use Rattle.mig_sketch.specs.Values.{for_each}
use Rattle.mig_sketch.proofs.values.add_for_each.Given as goal

abbrev pub invariant-loop-column : goal.invariant-loop-column
invariant-loop-column l = l.list.items ≡ l.fn.list.items ++ for_each (take l.column-index l.columns) l.value
