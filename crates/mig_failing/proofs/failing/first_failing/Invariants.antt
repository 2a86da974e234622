use Rattle.std.proofs.Common.{take}
use Rattle.std.specs.List.{flat_map}
use Rattle.std.specs.Prelude.{None}
use Rattle.mig_listing.specs.Choices.{numbers}
use Rattle.mig_failing.specs.Playing.{Walks}
use Rattle.mig_failing.proofs.AllLists.{with_updates}
use Rattle.mig_failing.proofs.failing.first_failing.Given as goal

abbrev pub invariant-loop-many : goal.invariant-loop-many
invariant-loop-many l = Walks l.job l.program (flat_map (with_updates l.job) (take l.many (numbers 4))) l.tests l.left None
