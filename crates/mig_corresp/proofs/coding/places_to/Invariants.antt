use Rattle.std.proofs.Common.{◌≡◌, take}
use Rattle.mig_corresp.specs.Correspondences.{comes_to}
use Rattle.mig_corresp.specs.Coding.{places}
use Rattle.mig_corresp.proofs.coding.places_to.Given as goal

abbrev pub invariant-loop-n : goal.invariant-loop-n
invariant-loop-n l = l.list.items ≡ places (comes_to l.column) 0 (take l.n l.pairs)
