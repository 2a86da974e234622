use Rattle.mig_classes.proofs.Passing.{all-any}
use Rattle.mig_classes.proofs.allowed.+lit_passes.Goals as goal

pub lit_passes-returns-in-Any : goal.lit_passes-returns-in-Any
lit_passes-returns-in-Any t c = all-any _ _ c.args.lit.now c.in-Any.held c.in-Any.inner _ _ c.in-Any.is c.as_slice.ensures c.lits_pass.ensures
