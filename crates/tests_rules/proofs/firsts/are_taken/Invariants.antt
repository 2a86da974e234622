use Rattle.mig_obligations.specs.Pairs.{sides_of}
use Rattle.mig_rules.specs.Quiet.{AreQuiet}
use Rattle.tests_rules.proofs.firsts.are_taken.Given as goal

abbrev pub invariant-loop-step : goal.invariant-loop-step
invariant-loop-step l = AreQuiet (sides_of l.facts.pair.now) l.facts.invariants.now.list l.quiet.items l.expr.terms
