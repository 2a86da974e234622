use Rattle.mig_invariant.proofs.Alike.{tested}
use Rattle.mig_invariant.proofs.listing.is_same.Goals as goal

pub returns : goal.returns
returns c = tested c.same.result c.args.left.now c.args.right.now c.same.ensures
