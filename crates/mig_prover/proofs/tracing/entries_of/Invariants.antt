use Rattle.std.proofs.Common.{take}
use Rattle.mig_obligations.specs.Pairs.{sides_of}
use Rattle.mig_prover.specs.Tracing.{AreTraced}
use Rattle.mig_prover.proofs.tracing.entries_of.Given as goal

abbrev pub invariant-loop-k : goal.invariant-loop-k
invariant-loop-k l = AreTraced (sides_of l.facts.pair.now) l.facts.invariants.now.list 0 (take l.k l.list) l.entries.items
