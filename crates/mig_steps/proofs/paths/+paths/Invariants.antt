use Rattle.std.proofs.Common.{◌≡◌, ◌++◌, drop}
use Rattle.mig_steps.specs.Paths.{paths_from}
use Rattle.mig_steps.proofs.paths.+paths.Given as goal

abbrev pub invariant-paths_from-loop-at : goal.invariant-paths_from-loop-at
invariant-paths_from-loop-at l = paths_from l.bodies 0 l.lits ≡ l.all.items ++ paths_from l.bodies l.at (drop l.at l.lits)
