use Rattle.std.proofs.Common.{reverse, arith, ap, ◌<◌, length}
use Rattle.mig_sat.proofs.Keeping.{room_for}
use Rattle.mig_sat.proofs.trail.Trail.push.Goals as goal

pub returns-in_err-push-clause-room : goal.returns-in_err-push-clause-room
returns-in_err-push-clause-room c =
    let size = ap (λ p. p.size) c.self.view_is in
    let var : c.args.step.lit.var < length c.self.inside.values.items = omega arith in
    let room = room_for c.self.inside.values.items (reverse c.self.inside.steps.items) c.args.step.lit.var c.self.invariant.1 var (rw (← c.self.view_is) at c.requires.fresh) in
    rw (← c.self.view_is) (omega arith)
