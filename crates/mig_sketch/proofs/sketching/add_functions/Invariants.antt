use Rattle.std.proofs.Common.{take}
use Rattle.std.specs.Prelude.{None, All}
use Rattle.mig_sketch.specs.Asking.{IsRight}
use Rattle.mig_sketch.specs.Made.{places_from}
use Rattle.mig_sketch.specs.Making.{Goes}
use Rattle.mig_sketch.proofs.sketching.add_functions.Given as goal

abbrev pub invariant-loop-n : goal.invariant-loop-n
invariant-loop-n l = record {
  right : All (IsRight l.job.target) l.asked.items;
  goes : Goes l.job l.corr (places_from 0 (take l.n l.functions)) l.fn.holes l.holes None;
}
