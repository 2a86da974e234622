use Rattle.std.proofs.Common.{take}
use Rattle.mig_prover.specs.Tracing.{AreTracesOf}
use Rattle.mig_prover.proofs.tracing.traces_between.Given as goal

abbrev pub invariant-loop-n : goal.invariant-loop-n
invariant-loop-n l = AreTracesOf l.job.source l.job.target l.facts.list (take l.n l.sources) (take l.n l.targets) l.traces.items
