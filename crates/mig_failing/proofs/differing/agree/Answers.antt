use Rattle.mig_store.proofs.Callable.{callable}
use Rattle.mig_failing.proofs.AfterCalls.{after_query}
use Rattle.mig_failing.proofs.differing.agree.Goals as goal

pub make-requires-clause-callable : goal.make-requires-clause-callable
make-requires-clause-callable c = callable c.args.tests.now.job.now.program c.requires.asked.within

pub make-requires-2-clause-callable : goal.make-requires-2-clause-callable
make-requires-2-clause-callable c = callable c.args.tests.now.program.now c.requires.asked.within_new

pub returns-clause-old : goal.returns-clause-old
returns-clause-old c = after_query c.args.tests.now.job.now.source c.args.tests.now.job.now.program _ c.args.played.now.calls c.args.query.now _ c.requires.given.sort c.as_slice-calls.ensures c.in_ok-old.ensures.after

pub returns-clause-new : goal.returns-clause-new
returns-clause-new c = after_query c.args.tests.now.job.now.target c.args.tests.now.program.now _ c.args.played.now.calls c.args.query.now _ c.requires.given.sort_new c.as_slice-calls.ensures c.in_ok-new.ensures.after
