use Rattle.std.proofs.Common.{◌≡◌, length, take}
use Rattle.std.specs.Prelude.{map}
use Rattle.mig_obligations.specs.Obligations.{holds_obligation}
use Rattle.mig_obligations.specs.Settings.{statements}
use Rattle.mig_prover.proofs.tracing.holding.Given as goal

abbrev pub invariant-loop-invariant : goal.invariant-loop-invariant
invariant-loop-invariant l = l.list.items ≡ map (holds_obligation (length (statements l.facts.pair.now.source_fn.now.body)) (length (statements l.facts.pair.now.target_fn.now.body))) (take l.invariant-index l.facts.invariants.now.list)
