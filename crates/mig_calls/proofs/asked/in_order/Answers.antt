use Rattle.std.proofs.Common.{ap, subst, sym, ◌∙◌, rules}
use Rattle.std.specs.Prelude.{◌==◌}
use Rattle.std.specs.List.{list_any}
use Rattle.std.proofs.lemmas.Bool.{eqb-true}
use Rattle.std.proofs.lemmas.Fn.{dedup_same}
use Rattle.std.proofs.lemmas.List.Sorted.{All-permutation, IsNonDecreasingBy-from_sort_by_key, list_any-IsPermutation}
use Rattle.mig_meaning.specs.declared.states.Placed.{Placed}
use Rattle.mig_meaning.specs.Lists.{Each, In}
use Rattle.mig_meaning.specs.States.{Rising}
use Rattle.mig_meaning.proofs.Lists.{all-each, any-dedup, each-all, each-by, each-dedup}
use Rattle.mig_calls.proofs.OrderLemmas.{rising-dedup, same_id}
use Rattle.mig_calls.proofs.asked.in_order.Goals as goal

pub returns-clause-rising : goal.returns-clause-rising
returns-clause-rising c =
    let kept = dedup_same _ same_id _ (λ x y b f' x' y' k. search rules) _ _ c.dedup_by_key.ensures.filtered in
    subst Rising (sym kept) (rising-dedup _ (IsNonDecreasingBy-from_sort_by_key (λ (p : Placed). p.id) _ c.sort_unstable_by_key.ensures.sorted (λ a r q k. search rules)))

pub returns-clause-found : goal.returns-clause-found
returns-clause-found c =
    let rows = c.args.rows.items in
    let P = λ (p : Placed). In p c.args.rows.items in
    let kept = dedup_same _ same_id _ (λ x y b f' x' y' k. search rules) _ _ c.dedup_by_key.ensures.filtered in
    subst (Each (λ (p : Placed). In p c.args.rows.items)) (sym kept) (each-dedup same_id P _ (all-each P _ (All-permutation P rows _ c.sort_unstable_by_key.ensures.permutation (each-all P rows (each-by P rows (λ p h. h))))))

pub returns-clause-ids : goal.returns-clause-ids
returns-clause-ids c =
    let kept = dedup_same _ same_id _ (λ x y b f' x' y' k. search rules) _ _ c.dedup_by_key.ensures.filtered in
    λ id.
    ap (λ rows. list_any (λ (p : Placed). p.id == id) rows) kept
    ∙ (any-dedup same_id (λ (p : Placed). p.id == id) (λ x k e. ap (λ n. n == id) (eqb-true x.id k.id e)) _
    ∙ sym (list_any-IsPermutation (λ (p : Placed). p.id == id) _ _ c.sort_unstable_by_key.ensures.permutation))
