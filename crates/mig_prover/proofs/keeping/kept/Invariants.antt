use Rattle.std.proofs.Common.{length, List}
use Rattle.mig_meaning.specs.declared.relating.Invariant.{Invariant}
use Rattle.mig_prover.specs.Rounds.{IsKept}
use Rattle.mig_prover.proofs.keeping.kept.Given as goal

abbrev pub invariant-rounds : goal.invariant-rounds
invariant-rounds l = (stands : List Invariant) → IsKept l.job l.program l.left.list stands → IsKept l.job l.program l.list.list stands

abbrev pub decreases-rounds : goal.decreases-rounds
decreases-rounds l = length l.left.list
