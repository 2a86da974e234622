use Rattle.std.proofs.Common.{List, ap, ◌∙◌}
use Rattle.mig_algebra.specs.declared.literals.Lit.{Lit}
use Rattle.mig_replacing.specs.Replaced.{put_at, spread}
use Rattle.mig_steps.proofs.Leading.{alternatives-made}
use Rattle.mig_steps.proofs.replacing.+alternatives_at.Goals as goal

pub returns : goal.returns
returns t c =
    let b = c.in-Some-body_of.body in
    let n = c.in-Some.next in
    alternatives-made c.args.lit.now b.held b.inner.now n.at n.rest.now c.args.path.now c.args.alternatives.items c.in-Some-get.inside.now _ _ _ _
    c.in-Some-body_of.ensures c.in-Some.ensures c.in-Some-get.ensures.value
    c.in_ok-deeper.ensures
    (c.in_ok-lists.ensures ∙ ap (λ (ls : List Lit). put_at ls n.at c.as_slice-2.result.now) c.as_slice.ensures ∙ ap (put_at b.inner.now.lits n.at) c.as_slice-2.ensures.value)
    c.in_ok-bodies.ensures
    (c.in_ok-made.ensures.spread ∙ ap (spread b.held) c.as_slice-3.ensures.value)
