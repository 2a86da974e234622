use Rattle.std.proofs.Common.{◌∙◌}
use Rattle.mig_replacing.proofs.Alternatives.{first-more}
use Rattle.mig_replacing.proofs.spreading.each_first.Goals as goal

pub loop-at-preserved : goal.loop-at-preserved
loop-at-preserved c =
    first-more c.args.bodies.now c.loop-at.at c.from_vec.result c.loop-at.alternatives.items c.push.new.self.items c.loop-at-test.true
    (λ d. c.from_vec.ensures ∙ c.in_ok-met_first.ensures d) c.in_ok-push.ensures.items c.loop-at.invariant
