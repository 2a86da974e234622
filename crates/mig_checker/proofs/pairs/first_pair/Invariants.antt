use Rattle.std.proofs.Common.{◌≡◌, ℕ, ◌<◌, false}
use Rattle.mig_certificate.specs.BrokenPlace.{broken}
use Rattle.mig_checker.specs.declared.places.InPair.{InPair}
use Rattle.mig_checker.specs.Inside.{at_pair}
use Rattle.mig_checker.proofs.pairs.first_pair.Given as goal

abbrev pub invariant-loop-i : goal.invariant-loop-i
invariant-loop-i l = (j : ℕ) (q : InPair) → j < l.i → broken l.job l.program l.certificate (at_pair j q) ≡ false
