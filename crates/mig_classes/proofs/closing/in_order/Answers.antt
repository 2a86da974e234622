use Rattle.std.proofs.Common.{◌∙◌, ap, rules}
use Rattle.std.specs.List.{dedup}
use Rattle.std.specs.Ordering.{is_lt, is_eq}
use Rattle.std.proofs.lemmas.Fn.{always_returns_same, dedup_same}
use Rattle.std.proofs.lemmas.List.Sorted.{ranks_by}
use Rattle.mig_algebra.specs.Atoms.{atom_order}
use Rattle.mig_algebra.proofs.OrderLaws.{atom_total, atom_tie}
use Rattle.mig_algebra.proofs.OnceLaws.{deduped_is}
use Rattle.mig_algebra.proofs.SortedLaws.{sorted_is}
use Rattle.mig_classes.proofs.closing.in_order.Goals as goal

pub returns : goal.returns
returns c =
    let by_order = c.sort_unstable_by.ensures.sorted (λ a b. is_lt (atom_order a b)) (ranks_by atom_total (λ a. a)) (always_returns_same _ _ _ (λ a r f k. search rules)) in
    let in_order = sorted_is atom_order atom_total atom_tie c.args.atoms.items c.sort_unstable_by.new.self.items c.sort_unstable_by.ensures.permutation by_order in
    dedup_same _ (λ x kept. is_eq (atom_order x kept)) _ (λ x y b f x' y' k. search rules) _ _ c.dedup_by.ensures.filtered
    ∙ ap (dedup (λ x kept. is_eq (atom_order x kept))) in_order
    ∙ deduped_is atom_order atom_total atom_tie c.args.atoms.items
