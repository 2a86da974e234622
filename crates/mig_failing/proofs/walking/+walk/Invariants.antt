use Rattle.std.proofs.Common.{◌-◌, ◌++◌, ◌∷◌, [], take}
use Rattle.std.specs.List.{flat_map}
use Rattle.std.specs.Prelude.{None}
use Rattle.mig_failing.specs.Made.{below}
use Rattle.mig_failing.specs.Playing.{Walks}
use Rattle.mig_failing.proofs.walking.+walk.Given as goal

abbrev pub invariant-loop-update : goal.invariant-loop-update
invariant-loop-update l = Walks l.tests.job.now l.tests.program.now (flat_map (λ u. below l.tests.updates.now l.tests.queries.now (l.updates - 1) (l.played.calls ++ u ∷ [])) (take l.update-index l.tests.updates.now)) l.fn.left l.left None

abbrev pub decreases-walk : goal.decreases-walk
decreases-walk l = l.updates
