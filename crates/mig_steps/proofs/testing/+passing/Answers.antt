use Rattle.mig_steps.proofs.Named.{all-any}
use Rattle.mig_steps.proofs.testing.+passing.Goals as goal

pub lit_passes-returns-in-Any : goal.lit_passes-returns-in-Any
lit_passes-returns-in-Any g t c = all-any _ _ c.args.lit.now c.in-Any.held c.in-Any.inner _ _ c.in-Any.is c.as_slice.ensures c.lits_pass.ensures
