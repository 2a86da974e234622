use Rattle.std.proofs.Common.{◌≡◌, IfOk, sym, subst}
use Rattle.mig_rows.specs.Lossless.{lossless_args}
use Rattle.mig_rows.specs.Merged.{merge_args}
use Rattle.mig_rows.specs.Parted.{apart_args}
use Rattle.mig_rules.specs.Offered.{args_for}
use Rattle.mig_rules.proofs.finding.args_for.Goals as goal

pub returns-in-Merge : goal.returns-in-Merge
returns-in-Merge c =
    let invs = c.args.facts.now.invariants.now.list in
    let tail = c.args.tail.now in
    subst (λ r. IfOk c.merge_args.result (λ s. s ≡ args_for invs r tail.number c.args.path.now tail.term.now tail.later.now)) (sym c.in-Merge.is)
    (subst (λ is. IfOk c.merge_args.result (λ s. s ≡ merge_args is tail.term.now)) c.as_slice-invariants.ensures c.merge_args.ensures)

pub returns-in-Apart : goal.returns-in-Apart
returns-in-Apart c =
    let invs = c.args.facts.now.invariants.now.list in
    let tail = c.args.tail.now in
    subst (λ r. IfOk c.apart_args.result (λ s. s ≡ args_for invs r tail.number c.args.path.now tail.term.now tail.later.now)) (sym c.in-Apart.is)
    (subst (λ is. IfOk c.apart_args.result (λ s. s ≡ apart_args is tail.term.now)) c.as_slice-invariants.ensures c.apart_args.ensures)

pub returns-in-Lossless : goal.returns-in-Lossless
returns-in-Lossless c =
    let invs = c.args.facts.now.invariants.now.list in
    let tail = c.args.tail.now in
    subst (λ r. IfOk c.lossless_args.result (λ s. s ≡ args_for invs r tail.number c.args.path.now tail.term.now tail.later.now)) (sym c.in-Lossless.is)
    (subst (λ is. IfOk c.lossless_args.result (λ s. s ≡ lossless_args is tail.term.now)) c.as_slice-invariants.ensures c.lossless_args.ensures)
