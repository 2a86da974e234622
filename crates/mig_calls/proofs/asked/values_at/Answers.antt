use Rattle.std.proofs.Common.{◌≡◌, map, refl, sym, ap, ◌∙◌, subst, rules}
use Rattle.std.specs.List.{list_any}
use Rattle.std.specs.Ordering.{is_lt}
use Rattle.std.proofs.lemmas.Fn.{always_returns_same, dedup_same}
use Rattle.std.proofs.lemmas.List.{take_all}
use Rattle.std.proofs.lemmas.List.Kept.{IsStrictlySortedBy-dedup}
use Rattle.std.proofs.lemmas.List.Sorted.{list_any-IsPermutation, ranks_by}
use Rattle.mig_schema.specs.declared.values.Value.{Value}
use Rattle.mig_meaning.specs.declared.states.Placed.{Placed}
use Rattle.mig_meaning.specs.Rows.{value_at}
use Rattle.mig_meaning.specs.Values.{value_eq}
use Rattle.mig_meaning.proofs.Bags.{value_eq-true}
use Rattle.mig_meaning.proofs.Maps.{any-map}
use Rattle.mig_calls.specs.Leading.{AreUnequal}
use Rattle.mig_calls.specs.Order.{value_order}
use Rattle.mig_meaning.proofs.Lists.{any-dedup}
use Rattle.mig_calls.proofs.ValueOrder.{sorted-unequal, value-ties, value_total}
use Rattle.mig_calls.proofs.asked.values_at.Goals as goal

pub returns-clause-unequal : goal.returns-clause-unequal
returns-clause-unequal c =
    let kept = dedup_same _ value_eq _ (λ x y b f' x' y' k. search rules) _ _ c.dedup_by.ensures.filtered in
    let by_order = c.sort_unstable_by.ensures.sorted (λ v w. is_lt (value_order v w)) (ranks_by value_total (λ (v : Value). v)) (always_returns_same _ _ _ (λ a r f k. search rules)) in
    subst AreUnequal (sym kept) (sorted-unequal _ (IsStrictlySortedBy-dedup value_total value-ties _ by_order))

pub returns-clause-members : goal.returns-clause-members
returns-clause-members c =
    let kept = dedup_same _ value_eq _ (λ x y b f' x' y' k. search rules) _ _ c.dedup_by.ensures.filtered in
    let value = λ (p : Placed). value_at p c.args.column in
    let all : c.loop-row.values.items ≡ map (λ (p : Placed). value_at p c.args.column) c.args.rows.now = c.loop-row.invariant ∙ ap (map value) (take_all c.loop-row.row-index c.args.rows.now c.loop-row-test.false) in
    λ v.
    ap (list_any (value_eq v)) kept
    ∙ (any-dedup value_eq (value_eq v) (λ x k e. ap (value_eq v) (value_eq-true x k e)) _
    ∙ (sym (list_any-IsPermutation (value_eq v) _ _ c.sort_unstable_by.ensures.permutation)
    ∙ (ap (list_any (value_eq v)) all
    ∙ any-map (value_eq v) value (λ (p : Placed). value_eq v (value_at p c.args.column)) (λ p. refl) c.args.rows.now)))
