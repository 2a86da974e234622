use Rattle.std.proofs.Common.{take}
use Rattle.mig_listing.specs.Listing.{IsIn}
use Rattle.mig_prover.proofs.proving.is_one.Given as goal

abbrev pub invariant-loop-other : goal.invariant-loop-other
invariant-loop-other l = IsIn l.wanted (take l.other-index l.list) → ⊥
