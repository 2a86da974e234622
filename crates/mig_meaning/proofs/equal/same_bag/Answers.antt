use Rattle.mig_meaning.proofs.Bags.{both-tested, first-tested}
use Rattle.mig_meaning.proofs.equal.same_bag.Goals as goal

pub returns-then-all_as_often : goal.returns-then-all_as_often
returns-then-all_as_often c = both-tested c.args.left.now.rows c.args.right.now.rows c.as_slice-l.result.now c.as_slice-r.result.now c.as_slice-l.ensures c.as_slice-r.ensures c.all_as_often.result c.all_as_often-then-all_as_often.result c.all_as_often.ensures c.if-all_as_often.true c.all_as_often-then-all_as_often.ensures

pub returns-else-all_as_often : goal.returns-else-all_as_often
returns-else-all_as_often c = first-tested c.args.left.now.rows c.args.right.now.rows c.as_slice-l.result.now c.as_slice-r.result.now c.as_slice-l.ensures c.as_slice-r.ensures c.all_as_often.result c.all_as_often.ensures c.if-all_as_often.false
