use Rattle.std.proofs.Common.{◌-◌, ◌∷◌, [], ◌++◌, sym, ◌∙◌, subst, arith}
use Rattle.std.specs.Prelude.{None}
use Rattle.mig_failing.specs.Made.{below}
use Rattle.mig_failing.specs.Playing.{Walks}
use Rattle.mig_failing.proofs.Walked.{below_some, each_done, each_found, each_more, each_spent}
use Rattle.mig_failing.proofs.walking.+walk.Goals as goal

pub returns-then-left-eq0 : goal.returns-then-left-eq0
returns-then-left-eq0 t c =
    let all = c.args.tests.now in
    let before = c.args.played.now.calls in
    subst (λ ls. Walks all.job.now all.program.now ls c.args.left.now c.loop-update.left None) (below_some all.updates.now all.queries.now c.args.updates before c.if-updates-eq0.false)
    (each_spent all.job.now all.program.now (λ u. below all.updates.now all.queries.now (c.args.updates - 1) (before ++ u ∷ [])) all.updates.now c.loop-update.update-index c.args.left.now c.loop-update.left c.if-left-eq0.true c.loop-update.invariant)

pub returns-then-is_some : goal.returns-then-is_some
returns-then-is_some t c =
    let all = c.args.tests.now in
    let before = c.args.played.now.calls in
    subst (λ ls. Walks all.job.now all.program.now ls c.args.left.now c.walk.new.left c.in_ok-found.found) (below_some all.updates.now all.queries.now c.args.updates before c.if-updates-eq0.false)
    (each_found all.job.now all.program.now (λ u. below all.updates.now all.queries.now (c.args.updates - 1) (before ++ u ∷ [])) all.updates.now c.loop-update.update-index c.args.left.now c.loop-update.left c.walk.new.left c.update-item.result c.loop-update-test.true c.update-item.is c.loop-update.invariant c.in_ok-found.found (sym c.is_some.ensures ∙ c.if-is_some.true)
    (subst (λ xs. Walks all.job.now all.program.now (below all.updates.now all.queries.now (c.args.updates - 1) xs) c.loop-update.left c.walk.new.left c.in_ok-found.found) c.in_ok-next.ensures.calls c.in_ok-found.ensures))

pub loop-update-preserved : goal.loop-update-preserved
loop-update-preserved t c =
    let all = c.args.tests.now in
    let before = c.args.played.now.calls in
    each_more all.job.now all.program.now (λ u. below all.updates.now all.queries.now (c.args.updates - 1) (before ++ u ∷ [])) all.updates.now c.loop-update.update-index c.args.left.now c.loop-update.left c.walk.new.left c.update-item.result c.loop-update-test.true c.update-item.is c.loop-update.invariant c.in_ok-found.found (sym c.is_some.ensures ∙ c.if-is_some.false)
    (subst (λ xs. Walks all.job.now all.program.now (below all.updates.now all.queries.now (c.args.updates - 1) xs) c.loop-update.left c.walk.new.left c.in_ok-found.found) c.in_ok-next.ensures.calls c.in_ok-found.ensures)

pub returns : goal.returns
returns t c =
    let all = c.args.tests.now in
    let before = c.args.played.now.calls in
    subst (λ ls. Walks all.job.now all.program.now ls c.args.left.now c.loop-update.left None) (below_some all.updates.now all.queries.now c.args.updates before c.if-updates-eq0.false)
    (each_done all.job.now all.program.now (λ u. below all.updates.now all.queries.now (c.args.updates - 1) (before ++ u ∷ [])) all.updates.now c.loop-update.update-index c.args.left.now c.loop-update.left (omega (arith, c.loop-update-test.false, c.loop-update.auto.update-index-end)) c.loop-update.invariant)
