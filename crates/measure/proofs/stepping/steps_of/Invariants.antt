use Rattle.mig_obligations.specs.Pairs.{sides_of}
use Rattle.mig_rules.specs.Quiet.{AreQuiet}
use Rattle.measure.proofs.stepping.steps_of.Given as goal

abbrev pub invariant-loop-turn : goal.invariant-loop-turn
invariant-loop-turn l = AreQuiet (sides_of l.facts.pair.now) l.facts.invariants.now.list l.quiet.items l.expr.terms
