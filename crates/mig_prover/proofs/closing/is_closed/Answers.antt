use Rattle.mig_obligations.specs.Pairs.{sides_of}
use Rattle.mig_prover.proofs.Closings.{closed-by}
use Rattle.mig_prover.proofs.closing.is_closed.Goals as goal

pub returns : goal.returns
returns c =
    closed-by (sides_of c.args.facts.now.pair.now) c.args.facts.now.invariants.now.list c.args.obligation.now c.in_ok-source.source c.in_ok-target.target c.in_ok-one.one
    c.in_ok-source.ensures c.in_ok-target.ensures c.in_ok-one.ensures
