use Rattle.std.proofs.Common.{◌≡◌, ◌++◌, take}
use Rattle.std.specs.List.{flat_map}
use Rattle.mig_sketch.specs.Needs.{case_columns}
use Rattle.mig_sketch.proofs.needing.add_condition.Given as goal

abbrev pub invariant-loop-cmps : goal.invariant-loop-cmps
invariant-loop-cmps l = l.list ≡ l.fn.list ++ flat_map case_columns (take l.cmps-index l.test.cases)
