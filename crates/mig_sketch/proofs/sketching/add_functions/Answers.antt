use Rattle.std.proofs.Common.{subst, arith}
use Rattle.std.specs.Prelude.{None}
use Rattle.std.proofs.lemmas.List.{take_all}
use Rattle.mig_sketch.specs.Made.{places_from}
use Rattle.mig_sketch.specs.Making.{Goes}
use Rattle.mig_sketch.proofs.Goings.{goes_none, functions_on, functions_end}
use Rattle.mig_sketch.proofs.sketching.add_functions.Goals as goal

pub loop-n-init : goal.loop-n-init
loop-n-init c = record { right = c.requires; goes = goes_none c.args.job.now c.args.corr.now c.args.holes.now }

pub loop-n-preserved : goal.loop-n-preserved
loop-n-preserved c = record {
  right = c.in_ok-made.ensures.right;
  goes = functions_on c.args.job.now c.args.corr.now c.args.functions.now c.loop-n.n c.index-functions-n.result c.loop-n-test.true c.index-functions-n.is _ _ _ c.loop-n.invariant.goes (rw c.in-None.is at c.in_ok-made.ensures.goes);
}

pub returns-in-Some : goal.returns-in-Some
returns-in-Some c = record { goes = functions_end c.args.job.now c.args.corr.now c.args.functions.now c.loop-n.n c.index-functions-n.result c.loop-n-test.true c.index-functions-n.is _ _ c.in-Some.made c.loop-n.invariant.goes (rw c.in-Some.is at c.in_ok-made.ensures.goes) }

pub returns : goal.returns
returns c = record { goes = subst (λ fs. Goes c.args.job.now c.args.corr.now (places_from 0 fs) c.args.holes.now c.loop-n.holes None) (take_all c.loop-n.n c.args.functions.now (omega (arith, c.loop-n-test.false))) c.loop-n.invariant.goes }
