use Rattle.std.proofs.Common.{List, subst}
use Rattle.std.specs.Prelude.{None}
use Rattle.mig_schema.specs.declared.programs.Function.{Function}
use Rattle.mig_sketch.specs.Made.{places_from}
use Rattle.mig_sketch.specs.Making.{Goes}
use Rattle.mig_sketch.proofs.Smalls.{small_holes}
use Rattle.mig_sketch.proofs.sketching.sketch.Goals as goal

pub returns-clause-small : goal.returns-clause-small
returns-clause-small c = small_holes c.args.job.now c.args.corr.now c.new-holes.result c.add_functions.new.holes c.new-holes.ensures
    (subst (λ (fs : List Function). Goes c.args.job.now c.args.corr.now (places_from 0 fs) c.new-holes.result c.add_functions.new.holes None) c.as_slice-functions.ensures (rw c.in-None.is at c.in_ok-made.ensures.goes))
