use Rattle.std.proofs.Common.{◌∙◌, ap, subst, sym, map, List, rules}
use Rattle.std.specs.Ordering.{is_lt}
use Rattle.std.proofs.lemmas.Fn.{always_returns_same}
use Rattle.std.proofs.lemmas.List.Sorted.{ranks_by}
use Rattle.mig_meaning.specs.Bags.{SameBag}
use Rattle.mig_algebra.specs.declared.terms.Term.{Term}
use Rattle.mig_algebra.specs.declared.terms.Expr.{Expr}
use Rattle.mig_algebra.specs.Meaning.{bag}
use Rattle.mig_algebra.specs.Orders.{term_order}
use Rattle.mig_algebra.specs.Proper.{IsProper}
use Rattle.mig_algebra.specs.Sorted.{sorted}
use Rattle.mig_algebra.specs.Tidied.{term_arranged, term_sorted}
use Rattle.mig_algebra.proofs.OrderLaws.{term_total, term_tie}
use Rattle.mig_algebra.proofs.SortedLaws.{sorted_is}
use Rattle.mig_algebra.proofs.TidiedBag.{tidied-bag}
use Rattle.mig_algebra.proofs.TidiedProper.{tidied-proper}
use Rattle.mig_algebra.proofs.tidying.tidy.Goals as goal

pub returns-clause-tidied : goal.returns-clause-tidied
returns-clause-tidied c =
    let by_order = c.sort_unstable_by.ensures.sorted (λ a b. is_lt (term_order a b)) (ranks_by term_total (λ t. t)) (always_returns_same _ _ _ (λ a r f k. search rules)) in
    let in_order = sorted_is term_order term_total term_tie c.in_ok-terms.terms.items c.sort_unstable_by.new.self.items c.sort_unstable_by.ensures.permutation by_order in
    let each = c.in_ok-terms.ensures ∙ ap (λ (ts : List Term). map (λ t. term_sorted (term_arranged t)) ts) c.as_slice.ensures in
    ap (λ (ts : List Term). record { terms = ts }) (c.from_vec-terms.ensures ∙ in_order ∙ ap (sorted term_order) each)

pub returns-clause-bag : goal.returns-clause-bag
returns-clause-bag c = λ s. subst (λ (e : Expr). SameBag (bag s e) (bag s c.args.expr.now)) (sym (returns-clause-tidied c)) (tidied-bag s c.args.expr.now)

pub returns-clause-proper : goal.returns-clause-proper
returns-clause-proper c = λ p h. subst (λ (e : Expr). IsProper p e) (sym (returns-clause-tidied c)) (tidied-proper p c.args.expr.now h)
