use Rattle.std.proofs.Common.{◌∙◌, ap, arith}
use Rattle.mig_steps.specs.Paths.{paths_from}
use Rattle.mig_steps.proofs.Leading.{paths-pushed, paths-step}
use Rattle.mig_steps.proofs.paths.+paths.Goals as goal

pub paths_from-loop-at-preserved : goal.paths_from-loop-at-preserved
paths_from-loop-at-preserved t c =
    paths-step c.args.bodies c.args.lits.now c.loop-at.at c.in_ok-number.field-0 c.index-lits-at.result c.loop-at.all.items c.push_at.new.all.items (omega arith) c.in_ok-number.ensures c.index-lits-at.is c.loop-at.invariant c.in_ok-push_at.ensures

pub push_at-returns-in-Any : goal.push_at-returns-in-Any
push_at-returns-in-Any t c =
    paths-pushed c.args.bodies c.args.at c.args.lit.now c.in-Any.held c.in-Any.inner c.args.all.now.items c.push_longer.new.all.items c.push_longer-in-Any.new.all.items c.as_slice.result.now c.as_slice-in-Any-2.result.now
    c.in-Any.is
    (c.as_slice.ensures.value ∙ c.in_ok-own.ensures)
    c.in_ok-push_longer.ensures
    (c.as_slice-in-Any-2.ensures.value ∙ c.in_ok-inside-in-Any.ensures ∙ ap (paths_from c.args.bodies 0) c.as_slice-in-Any.ensures)
    c.in_ok-push_longer-in-Any.ensures
