use Rattle.std.proofs.Common.{◌+◌, ◌∙◌, ap, length, List}
use Rattle.mig_algebra.specs.declared.atoms.Var.{Var}
use Rattle.mig_unfolding.specs.Narrowed.{narrowed}
use Rattle.mig_unfolding.proofs.NarrowLists.{narrow-made}
use Rattle.mig_unfolding.proofs.narrowing.+narrow.Goals as goal

pub narrow_lit-returns-in_ok-lits-in-Any : goal.narrow_lit-returns-in_ok-lits-in-Any
narrow_lit-returns-in_ok-lits-in-Any t c =
    let u = c.args.newest.now.var.now in
    let v = c.args.newest.now.number in
    let lits = c.as_slice-lits.result.now in
    narrow-made u v c.args.count c.in_ok-deeper-in-Any.deeper c.args.lit.now c.in-Any.held c.in-Any.inner _ _ lits c.in-Any.is
    (c.in_ok-vars-in-Any.ensures ∙ ap (λ (vs : List Var). narrowed u v c.args.count lits vs) c.as_slice-in-Any.ensures)
    c.in_ok-lits-in-Any.ensures
    (c.in_ok-deeper-in-Any.ensures ∙ ap (λ (vs : List Var). c.args.count + length vs) c.as_slice.ensures)
    c.as_slice-lits.ensures
