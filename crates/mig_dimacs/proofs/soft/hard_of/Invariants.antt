use Rattle.std.proofs.Common.{◌≡◌, take}
use Rattle.std.specs.List.{flat_map}
use Rattle.mig_dimacs.specs.Softs.{hard_part}
use Rattle.mig_dimacs.proofs.soft.hard_of.Given as goal

abbrev pub invariant-loop-clause : goal.invariant-loop-clause
invariant-loop-clause l = l.hard ≡ flat_map (hard_part l.top) (take l.clause-index l.clauses)
