use Rattle.std.proofs.Common.{◌≡◌, take}
use Rattle.mig_corresp.specs.Coding.{one_of}
use Rattle.mig_corresp.proofs.coding.one_of.Given as goal

abbrev pub invariant-loop-place : goal.invariant-loop-place
invariant-loop-place l = l.clause.items ≡ one_of (take l.place-index l.places)
