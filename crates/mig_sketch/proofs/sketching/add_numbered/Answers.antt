use Rattle.std.proofs.Common.{ℕ, subst}
use Rattle.std.specs.Prelude.{Option, IfOk}
use Rattle.mig_sketch.specs.declared.plans.Made.{Made}
use Rattle.mig_sketch.specs.Made.{places_in}
use Rattle.mig_sketch.specs.Making.{Goes}
use Rattle.mig_sketch.proofs.sketching.add_numbered.Goals as goal

pub returns-clause-goes : goal.returns-clause-goes
returns-clause-goes c = subst (λ (n : ℕ). IfOk c.add_function.result (λ (o : Option Made). Goes c.args.job.now c.args.corr.now (places_in n c.args.function.now.body) c.args.holes.now c.add_function.new.holes o)) c.in_ok-number.ensures.ok c.add_function.ensures.goes
