use Rattle.std.proofs.Common.{◌+◌}
use Rattle.mig_literals.proofs.Differing.{later-step}
use Rattle.mig_literals.proofs.joints.rejoin_args.Goals as goal

pub loop-k-preserved : goal.loop-k-preserved
loop-k-preserved c = later-step c.args.term.now (c.args.n + 1) c.loop-k.k c.args.later.now c.index-later-k.result c.in_ok-u.u c.loop-k.all c.push_joint.new.all c.loop-k-test.true c.index-later-k.is c.in_ok-u.ensures c.loop-k.invariant c.in_ok-push_joint.ensures
