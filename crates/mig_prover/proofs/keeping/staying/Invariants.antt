use Rattle.std.proofs.Common.{take}
use Rattle.mig_prover.specs.Rounds.{Stays, IsWithout}
use Rattle.mig_prover.proofs.keeping.staying.Given as goal

abbrev pub invariant-loop-candidate : goal.invariant-loop-candidate
invariant-loop-candidate l = IsWithout (Stays l.job l.program l.views l.left.list) (take l.candidate-index l.list) l.next.items
