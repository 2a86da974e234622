use Rattle.std.proofs.Common.{Bor, ◌∙◌, ap, map, rules}
use Rattle.std.specs.Ordering.{is_lt}
use Rattle.std.proofs.lemmas.Fn.{always_returns_same}
use Rattle.std.proofs.lemmas.List.{take_all}
use Rattle.std.proofs.lemmas.List.Sorted.{IsPermutation-map, ranks_by}
use Rattle.mig_meaning.specs.declared.states.Row.{Row}
use Rattle.mig_meaning.specs.Told.{rows_told}
use Rattle.mig_algebra.specs.Sorted.{sorted}
use Rattle.mig_algebra.proofs.SortedLaws.{sorted_is}
use Rattle.mig_store.specs.Order.{row_order}
use Rattle.mig_store.proofs.Ordered.{row_total, row_tie}
use Rattle.mig_store.proofs.Sorting.{sorted-map}
use Rattle.mig_store.proofs.writing.in_order.Goals as goal

pub returns : goal.returns
returns c =
    let old = c.loop-row.list.items in
    let new = c.sort_unstable_by.new.self.items in
    let by_order = c.sort_unstable_by.ensures.sorted (λ a b. is_lt (row_order a.now.values b.now.values)) (ranks_by row_total (λ (r : Bor Row). r.now.values)) (always_returns_same _ _ _ (λ a r f k. search rules)) in
    let moved = IsPermutation-map (λ (r : Bor Row). r.now.values) old new c.sort_unstable_by.ensures.permutation in
    let whole = c.loop-row.invariant ∙ ap rows_told (take_all c.loop-row.row-index c.args.rows.now c.loop-row-test.false) in
    sorted_is row_order row_total row_tie (map (λ (r : Bor Row). r.now.values) old) (map (λ (r : Bor Row). r.now.values) new) moved (sorted-map (λ (r : Bor Row). r.now.values) row_order new by_order)
    ∙ ap (sorted row_order) whole
