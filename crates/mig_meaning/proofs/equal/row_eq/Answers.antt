use Rattle.mig_meaning.proofs.Bags.{row-test}
use Rattle.mig_meaning.proofs.equal.row_eq.Goals as goal

pub returns : goal.returns
returns c = row-test c.same.result c.args.left.now c.args.right.now c.same.ensures
