use Rattle.std.proofs.Common.{◌∙◌, sym}
use Rattle.mig_literals.proofs.Differing.{difference-on, difference-here}
use Rattle.mig_literals.proofs.joints.first_difference.Goals as goal

pub loop-at-preserved : goal.loop-at-preserved
loop-at-preserved c = c.loop-at.invariant ∙ difference-on c.args.left.now c.args.right.now c.loop-at.at c.index-left-at.result c.loop-at-test.true c.index-left-at.is (sym c.differs_at.ensures ∙ c.if-differs_at.false)

pub returns-then-differs_at : goal.returns-then-differs_at
returns-then-differs_at c = sym (c.loop-at.invariant ∙ difference-here c.args.left.now c.args.right.now c.loop-at.at c.index-left-at.result c.loop-at-test.true c.index-left-at.is (sym c.differs_at.ensures ∙ c.if-differs_at.true))
