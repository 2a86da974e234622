use Rattle.mig_obligations.specs.Pairs.{sides_of}
use Rattle.mig_prover.proofs.LeastSteps.{IsUnderWay}
use Rattle.mig_prover.proofs.trails.simplify.Given as goal

abbrev pub invariant-loop-taken : goal.invariant-loop-taken
invariant-loop-taken l = IsUnderWay (sides_of l.facts.pair.now) l.facts.invariants.now.list l.expr l._taken l.steps.items l.end l.quiet.items
