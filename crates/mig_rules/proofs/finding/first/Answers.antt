use Rattle.std.proofs.Common.{sym, subst}
use Rattle.mig_obligations.specs.Pairs.{sides_of}
use Rattle.mig_rules.specs.First.{FindsFirst}
use Rattle.mig_rules.proofs.FirstStep.{finds-first}
use Rattle.mig_rules.proofs.finding.first.Goals as goal

pub returns : goal.returns
returns c = subst (FindsFirst (sides_of c.args.facts.now.pair.now) c.args.facts.now.invariants.now.list c.args.expr.now) (sym c.in_ok-step.ensures) (finds-first (sides_of c.args.facts.now.pair.now) c.args.facts.now.invariants.now.list c.args.expr.now)
