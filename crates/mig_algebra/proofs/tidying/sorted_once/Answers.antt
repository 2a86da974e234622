use Rattle.std.proofs.Common.{◌∙◌, ap, rules}
use Rattle.std.specs.List.{dedup}
use Rattle.std.specs.Ordering.{is_lt, is_eq}
use Rattle.std.proofs.lemmas.Fn.{always_returns_same, dedup_same}
use Rattle.std.proofs.lemmas.List.Sorted.{ranks_by}
use Rattle.mig_algebra.specs.Orders.{lit_order}
use Rattle.mig_algebra.proofs.OrderLaws.{lit_total, lit_tie}
use Rattle.mig_algebra.proofs.OnceLaws.{deduped_is}
use Rattle.mig_algebra.proofs.SortedLaws.{sorted_is}
use Rattle.mig_algebra.proofs.tidying.sorted_once.Goals as goal

pub returns : goal.returns
returns c =
    let by_order = c.sort_unstable_by.ensures.sorted (λ a b. is_lt (lit_order a b)) (ranks_by lit_total (λ l. l)) (always_returns_same _ _ _ (λ a r f k. search rules)) in
    let in_order = sorted_is lit_order lit_total lit_tie c.args.lits.items c.sort_unstable_by.new.self.items c.sort_unstable_by.ensures.permutation by_order in
    dedup_same _ (λ x kept. is_eq (lit_order x kept)) _ (λ x y b f x' y' k. search rules) _ _ c.dedup_by.ensures.filtered
    ∙ ap (dedup (λ x kept. is_eq (lit_order x kept))) in_order
    ∙ deduped_is lit_order lit_total lit_tie c.args.lits.items
