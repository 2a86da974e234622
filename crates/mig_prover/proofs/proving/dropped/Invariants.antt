use Rattle.std.proofs.Common.{take}
use Rattle.mig_listing.specs.Listing.{IsIn}
use Rattle.mig_prover.specs.Rounds.{IsWithout}
use Rattle.mig_prover.proofs.proving.dropped.Given as goal

abbrev pub invariant-loop-candidate : goal.invariant-loop-candidate
invariant-loop-candidate l = IsWithout (λ i. IsIn i l.facts → ⊥) (take l.candidate-index l.list) l.gone.items
