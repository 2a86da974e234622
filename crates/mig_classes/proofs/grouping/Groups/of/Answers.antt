use Rattle.std.proofs.Common.{◌∙◌, List, map, sym, ap, subst}
use Rattle.mig_algebra.specs.declared.atoms.Atom.{Atom}
use Rattle.mig_algebra.specs.Atoms.{atom_order}
use Rattle.mig_algebra.specs.Sorted.{sorted_once}
use Rattle.mig_classes.specs.Classes.{least}
use Rattle.mig_classes.specs.Forests.{atom_of, LeadsTo}
use Rattle.mig_classes.proofs.grouping.Groups.of.Goals as goal

pub invariant_of-result : goal.invariant_of-result
invariant_of-result c =
    let lits = c.args.lits.now in
    let named = c.in_order-atoms.ensures ∙ ap (sorted_once atom_order) c.in_ok-equated.ensures in
    let leads = subst (λ (ys : List Atom). LeadsTo (atom_of ys) (λ k. least lits (atom_of ys k)) c.in_ok-parents.parents.items) (c.as_slice.ensures.value ∙ sym c.as_slice-2.ensures.value) c.in_ok-parents.ensures.leads in
    record { named = named; led = c.in_ok-leasts.ensures lits leads ∙ ap (map (least lits)) (c.as_slice-2.ensures.value ∙ named) }
