use Rattle.mig_store.proofs.Callable.{callable}
use Rattle.mig_failing.proofs.played.with_update.Goals as goal

pub make-requires-clause-callable : goal.make-requires-clause-callable
make-requires-clause-callable c = callable c.args.tests.now.job.now.program c.requires.asked.within

pub make-requires-2-clause-callable : goal.make-requires-2-clause-callable
make-requires-2-clause-callable c = callable c.args.tests.now.program.now c.requires.asked.within_new
