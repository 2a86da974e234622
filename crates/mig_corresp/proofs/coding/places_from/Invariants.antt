use Rattle.std.proofs.Common.{◌≡◌, take}
use Rattle.mig_corresp.specs.Correspondences.{goes_from}
use Rattle.mig_corresp.specs.Coding.{places}
use Rattle.mig_corresp.proofs.coding.places_from.Given as goal

abbrev pub invariant-loop-n : goal.invariant-loop-n
invariant-loop-n l = l.list.items ≡ places (goes_from l.column) 0 (take l.n l.pairs)
