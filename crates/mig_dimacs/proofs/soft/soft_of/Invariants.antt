use Rattle.std.proofs.Common.{◌≡◌, take}
use Rattle.std.specs.List.{flat_map}
use Rattle.mig_dimacs.specs.Softs.{soft_part}
use Rattle.mig_dimacs.proofs.soft.soft_of.Given as goal

abbrev pub invariant-loop-clause : goal.invariant-loop-clause
invariant-loop-clause l = l.soft ≡ flat_map (soft_part l.top) (take l.clause-index l.clauses)
