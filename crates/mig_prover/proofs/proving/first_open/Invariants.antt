use Rattle.mig_prover.specs.Proving.{AllAnswered}
use Rattle.mig_prover.proofs.proving.first_open.Given as goal

abbrev pub invariant-loop-n : goal.invariant-loop-n
invariant-loop-n l = AllAnswered l.job l.program l.facts.list l.n
