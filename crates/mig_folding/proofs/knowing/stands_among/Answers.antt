use Rattle.std.proofs.Common.{sym, ◌∙◌}
use Rattle.mig_folding.specs.Known.{stands_as}
use Rattle.mig_folding.proofs.AnyLoops.{own-here, own-on}
use Rattle.mig_folding.proofs.knowing.stands_among.Goals as goal

pub returns-then-branch : goal.returns-then-branch
returns-then-branch c =
    own-here (stands_as c.args.further.now.to c.args.lit.now c.args.further.now.from) c.args.lits.now c.loop-other.other-index c.other-item.result c.loop-other-test.true c.other-item.is (sym c.in_ok-stands_as.ensures ∙ c.if-branch.true) c.loop-other.invariant

pub loop-other-preserved : goal.loop-other-preserved
loop-other-preserved c =
    own-on (stands_as c.args.further.now.to c.args.lit.now c.args.further.now.from) c.args.lits.now c.loop-other.other-index c.other-item.result c.loop-other-test.true c.other-item.is (sym c.in_ok-stands_as.ensures ∙ c.if-branch.false) c.loop-other.invariant
