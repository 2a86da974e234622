use Rattle.mig_unfolding.proofs.NarrowLists.{narrows-made}
use Rattle.mig_unfolding.proofs.narrowing.+narrows.Goals as goal

pub lit_narrows-returns-in_ok-may-in-Any : goal.lit_narrows-returns-in_ok-may-in-Any
lit_narrows-returns-in_ok-may-in-Any t c =
    narrows-made c.args.newest.now.var.now c.args.newest.now.number c.args.scopes.now.all c.args.scopes.now.seen c.args.lit.now c.in-Any.held c.in-Any.inner _ _ _ _ _ _ c.in-Any.is
    c.in_ok-may-in-Any.ensures c.in_ok-deeper-in-Any.ensures.all c.in_ok-deeper-in-Any.ensures.seen c.as_slice-in-Any.ensures c.as_slice-in-Any-2.ensures c.as_slice-lits.ensures
