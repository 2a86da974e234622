use Rattle.std.proofs.Common.{◌≤◌, map, length, subst, arith}
use Rattle.std.specs.Prelude.{None}
use Rattle.std.proofs.lemmas.List.{take_all}
use Rattle.mig_base.specs.Lists.{numbered}
use Rattle.mig_sketch.specs.declared.plans.Part.TheVariants as part
use Rattle.mig_sketch.specs.Made.{place_at}
use Rattle.mig_sketch.specs.Making.{Goes}
use Rattle.mig_sketch.proofs.Goings.{goes_none, stmts_on, stmts_end, parts-length}
use Rattle.mig_sketch.proofs.sketching.add_stmts.Goals as goal

pub loop-n-init : goal.loop-n-init
loop-n-init c = record { right = c.requires; goes = goes_none c.args.job.now c.args.corr.now c.args.holes.now }

pub loop-n-preserved : goal.loop-n-preserved
loop-n-preserved c = record {
  right = c.in_ok-made.ensures.right;
  goes = stmts_on c.args.job.now c.args.corr.now c.args.function c.args.free.now c.args.stmts.now c.loop-n.n c.index-stmts-n.result c.loop-n-test.true c.index-stmts-n.is _ _ _ c.loop-n.invariant.goes (rw c.in-None.is at c.in_ok-made.ensures.goes);
}

pub returns-in-Some-clause-goes : goal.returns-in-Some-clause-goes
returns-in-Some-clause-goes c = stmts_end c.args.job.now c.args.corr.now c.args.function c.args.free.now c.args.stmts.now c.loop-n.n c.index-stmts-n.result c.loop-n-test.true c.index-stmts-n.is _ _ c.in-Some.made c.loop-n.invariant.goes (rw c.in-Some.is at c.in_ok-made.ensures.goes)

pub returns-clause-goes : goal.returns-clause-goes
returns-clause-goes c =
    let ps = map (λ s. part.Stmt s) c.args.stmts.now in
    let all : length ps ≤ c.loop-n.n = omega (arith, parts-length c.args.stmts.now, c.loop-n-test.false) in
    subst (λ qs. Goes c.args.job.now c.args.corr.now (numbered (place_at c.args.function c.args.free.now) 0 qs) c.args.holes.now c.loop-n.holes None) (take_all c.loop-n.n ps all) c.loop-n.invariant.goes
