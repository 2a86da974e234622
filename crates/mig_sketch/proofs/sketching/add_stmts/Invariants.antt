use Rattle.std.proofs.Common.{take, map}
use Rattle.std.specs.Prelude.{None, All}
use Rattle.mig_base.specs.Lists.{numbered}
use Rattle.mig_sketch.specs.declared.plans.Part.TheVariants as part
use Rattle.mig_sketch.specs.Asking.{IsRight}
use Rattle.mig_sketch.specs.Made.{place_at}
use Rattle.mig_sketch.specs.Making.{Goes}
use Rattle.mig_sketch.proofs.sketching.add_stmts.Given as goal

abbrev pub invariant-loop-n : goal.invariant-loop-n
invariant-loop-n l = record {
  right : All (IsRight l.job.target) l.asked.items;
  goes : Goes l.job l.corr (numbered (place_at l.function l.free) 0 (take l.n (map (λ s. part.Stmt s) l.stmts))) l.fn.holes l.holes None;
}
