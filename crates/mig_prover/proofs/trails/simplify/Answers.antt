use Rattle.std.proofs.Common.{sym, Some}
use Rattle.mig_obligations.specs.Pairs.{sides_of}
use Rattle.mig_rules.specs.Taking.{Takes}
use Rattle.mig_prover.proofs.LeastSteps.{begun, under-way}
use Rattle.mig_prover.proofs.trails.simplify.Goals as goal

pub loop-taken-init : goal.loop-taken-init
loop-taken-init c =
    begun (sides_of c.args.facts.now.pair.now) c.args.facts.now.invariants.now.list c.args.expr.now c.in_ok-end.end c.new-steps.result.items c.in_ok-quiet.quiet.items c.new-steps.ensures.items (sym c.in_ok-end.ensures)
    (c.in_ok-quiet.ensures (sides_of c.args.facts.now.pair.now) c.args.facts.now.invariants.now.list)

pub loop-taken-preserved : goal.loop-taken-preserved
loop-taken-preserved c =
    let p = sides_of c.args.facts.now.pair.now in
    let invs = c.args.facts.now.invariants.now.list in
    let taken : Takes p invs c.loop-taken.end (Some c.in-Some.taken) = rw c.in-Some.is at c.in_ok-first.ensures in
    under-way p invs c.args.expr.now c.loop-taken._taken c.loop-taken.steps.items c.push.new.self.items c.loop-taken.end c.loop-taken.quiet.items c.in-Some.taken c.loop-taken.invariant taken c.in_ok-push.ensures.items
