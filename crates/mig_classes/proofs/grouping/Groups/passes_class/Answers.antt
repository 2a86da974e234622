use Rattle.std.proofs.Common.{arith}
use Rattle.std.proofs.lemmas.Grind.{common_steps}
use Rattle.mig_classes.proofs.Asking.{any-class}
use Rattle.mig_classes.proofs.grouping.Groups.passes_class.Goals as goal

pub returns-then-passes : goal.returns-then-passes
returns-then-passes g c =
    let e = any-class c.args.self.now.lits.now (g.T.PairTest.test c.args.test.now c.args.left.now) c.args.right.now in
    grind (arith, common_steps)

pub returns-else-passes : goal.returns-else-passes
returns-else-passes g c =
    let e = any-class c.args.self.now.lits.now (g.T.PairTest.test c.args.test.now c.args.left.now) c.args.right.now in
    grind (arith, common_steps)
