use Rattle.std.proofs.Common.{sym, ◌∙◌}
use Rattle.mig_steps.specs.Seeing.{shown}
use Rattle.mig_folding.specs.Known.{stands_in}
use Rattle.mig_folding.proofs.AnyLoops.{any-here, any-on}
use Rattle.mig_folding.proofs.knowing.stands_around.Goals as goal

pub returns-then-branch : goal.returns-then-branch
returns-then-branch c =
    any-here (stands_in c.args.count c.args.lit.now) shown c.args.lists.now c.loop-list.list-index c.list-item.result c.loop-list-test.true c.list-item.is (sym c.in_ok-stands_in.ensures ∙ c.if-branch.true) c.loop-list.invariant

pub loop-list-preserved : goal.loop-list-preserved
loop-list-preserved c =
    any-on (stands_in c.args.count c.args.lit.now) shown c.args.lists.now c.loop-list.list-index c.list-item.result c.loop-list-test.true c.list-item.is (sym c.in_ok-stands_in.ensures ∙ c.if-branch.false) c.loop-list.invariant
