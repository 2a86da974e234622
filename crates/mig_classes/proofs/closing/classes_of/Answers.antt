use Rattle.std.proofs.Common.{◌≡◌, ◌∙◌, List, map, length, sym, ap, subst, rules}
use Rattle.std.specs.Prelude.{filter, nat_lt}
use Rattle.std.proofs.lemmas.Fn.{filter_same}
use Rattle.mig_algebra.specs.declared.atoms.Atom.{Atom}
use Rattle.mig_algebra.specs.Atoms.{atom_order}
use Rattle.mig_algebra.specs.Sorted.{sorted_once}
use Rattle.mig_classes.specs.Classes.{least, named, led_by, is_several}
use Rattle.mig_classes.specs.Forests.{atom_of, LeadsTo, RisesTo}
use Rattle.mig_classes.proofs.Grouped.{filter-agree, several-count}
use Rattle.mig_classes.proofs.Rising.{sorted-rising}
use Rattle.mig_classes.proofs.closing.classes_of.Goals as goal

pub grouped-requires-clause-rising : goal.grouped-requires-clause-rising
grouped-requires-clause-rising c =
    subst (λ (xs : List Atom). RisesTo (length xs) (atom_of xs)) (sym (c.as_slice-2.ensures.value ∙ c.in_order-atoms.ensures)) (sorted-rising c.in_ok-equated.field-0.items)

pub returns : goal.returns
returns c =
    let lits = c.args.lits.now in
    let xs = c.as_slice-2.result.now in
    let atoms : c.as_slice-2.result.now ≡ named lits = c.as_slice-2.ensures.value ∙ c.in_order-atoms.ensures ∙ ap (sorted_once atom_order) c.in_ok-equated.ensures in
    let leads = subst (λ (ys : List Atom). LeadsTo (atom_of ys) (λ k. least lits (atom_of ys k)) c.in_ok-parents.parents.items) (c.as_slice.ensures.value ∙ sym c.as_slice-2.ensures.value) c.in_ok-parents.ensures.leads in
    let groups = c.in_ok-groups.ensures lits leads in
    let kept : c.retain.new.self.items ≡ filter (λ g. nat_lt 1 (length g)) c.in_ok-groups.groups.items = filter_same _ (λ (g : List Atom). nat_lt 1 (length g)) _ (λ x b f' k. search rules) _ _ c.retain.ensures.filtered in
    c.from_vec.ensures ∙ kept ∙ ap (filter (λ (g : List Atom). nat_lt 1 (length g))) groups
    ∙ filter-agree (λ (g : List Atom). nat_lt 1 (length g)) is_several several-count (map (led_by lits xs) xs)
    ∙ ap (λ (ys : List Atom). filter is_several (map (led_by lits ys) ys)) atoms
