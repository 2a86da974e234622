use Rattle.std.proofs.Common.{◌≡◌, ◌++◌, take}
use Rattle.mig_sketch.specs.Needs.{case_columns}
use Rattle.mig_sketch.proofs.needing.add_case.Given as goal

abbrev pub invariant-loop-cmp : goal.invariant-loop-cmp
invariant-loop-cmp l = l.list ≡ l.fn.list ++ case_columns (take l.cmp-index l.cmps)
