-- The tidied expression has the expression's bag, in every setting.
use Rattle.std.proofs.Common.{◌≡◌, ℕ, ◌&&◌, List, [], ◌∷◌, ◌++◌, map, refl, sym, ap, ap₂, ◌∙◌}
use Rattle.std.specs.List.{list_all}
use Rattle.mig_schema.specs.declared.values.Value.{Value}
use Rattle.mig_meaning.specs.declared.states.Placed.{Placed}
use Rattle.mig_meaning.specs.Lists.{total}
use Rattle.mig_meaning.specs.Bags.{SameBag}
use Rattle.mig_meaning.proofs.Bags.{total-map}
use Rattle.mig_algebra.specs.declared.literals.Lit.{Lit, Cmp, Other, Any', Row_of-Lit, end_of-Lit, more_of-Lit}
use Rattle.mig_algebra.specs.declared.terms.Term.{Term}
use Rattle.mig_algebra.specs.declared.terms.Expr.{Expr}
use Rattle.mig_algebra.specs.Meaning.{Setting, Env, comes_out, choices, lit_true, row_true, lits_true, head_of, bag}
use Rattle.mig_algebra.specs.Orders.{lit_order, term_order}
use Rattle.mig_algebra.specs.Sorted.{sorted_once}
use Rattle.mig_algebra.specs.Tidied.{slots, slots_in_order, numbers_of, lit_sorted, row_sorted, term_arranged, term_sorted, terms_tidied, tidied}
use Rattle.mig_algebra.proofs.Sums.{when, total-same}
use Rattle.mig_algebra.proofs.Some.{any-same}
use Rattle.mig_algebra.proofs.InOrder.{total-sorted, passes-sorted_once}
use Rattle.mig_algebra.proofs.Bodies.{any_true}
use Rattle.mig_algebra.proofs.Truth.{oriented_true}
use Rattle.mig_algebra.proofs.Weights.{weight, same-bag}
use Rattle.mig_algebra.proofs.OrderLaws.{lit_tie}
use Rattle.mig_algebra.proofs.Arranged.{arranges-none, arranges-more, no_numbers, numbers-more}
use Rattle.mig_algebra.proofs.ArrangedTruth.{arranged-lits-true, renumbered-head, choices-more}
use Rattle.mig_meaning.specs.Rows.{no_row}

-- a term whose variables are in order has the same weights
pub weight-arranged : (s : Setting) (w : List Value → ℕ) (t : Term) → weight s w (term_arranged t) ≡ weight s w t
weight-arranged s w t =
    sym (choices-more s [] t.vars (λ c. when (lits_true s c t.lits) (w (head_of s t.head c))) (λ c. when (lits_true s c (term_arranged t).lits) (w (head_of s (term_arranged t).head c))) same)
  where
    same : (a : ℕ → Placed) → when (lits_true s (map a (numbers_of (slots 0 t.vars))) t.lits) (w (head_of s t.head (map a (numbers_of (slots 0 t.vars))))) ≡ when (lits_true s (map a (numbers_of (slots_in_order 0 t.vars))) (term_arranged t).lits) (w (head_of s (term_arranged t).head (map a (numbers_of (slots_in_order 0 t.vars)))))
    same a =
        let n = numbers-more [] t.vars no_numbers in
        let r = arranges-more no_row [] t.vars a [] [] no_numbers (arranges-none no_row) in
        ap₂ (λ b vs. when b (w vs)) (arranged-lits-true s _ _ _ n r t.lits) (renumbered-head s _ _ _ r t.head)

-- a list of literals in order, equal ones once, is true where the list is
pub sorted_once-true : (s : Setting) (e : Env) (ls : List Lit) → lits_true s e (sorted_once lit_order ls) ≡ lits_true s e ls
sorted_once-true s e ls = as_all (sorted_once lit_order ls) ∙ passes-sorted_once lit_order (lit_true s e) (λ x y h. ap (lit_true s e) (lit_tie x y h)) ls ∙ sym (as_all ls)
  where
    as_all : (xs : List Lit) → lits_true s e xs ≡ list_all (lit_true s e) xs
    as_all [] = refl
    as_all (x ∷ xs) = ap (λ b. lit_true s e x && b) (as_all xs)

mutual
  -- a literal whose literals are in order
  pub sorted-true : (s : Setting) (e : Env) (l : Lit) → lit_true s e (lit_sorted l) ≡ lit_true s e l
  sorted-true s e (Cmp op a b) = oriented_true s e op a b
  sorted-true s e (Other a b) = refl
  sorted-true s e (Any' held vars n lits) =
      any_true s e held vars (sorted_once lit_order (row_sorted lits))
      ∙ ap (comes_out held) (any-same _ _ (λ c. sorted_once-true s (e ++ c) (row_sorted lits) ∙ sorted-row-true s (e ++ c) lits) (choices s vars))

  pub sorted-row-true : (s : Setting) (e : Env) {m : _} (lits : Row_of-Lit m) → lits_true s e (row_sorted lits) ≡ row_true s e lits
  sorted-row-true s e end_of-Lit = refl
  sorted-row-true s e (more_of-Lit l rest) = ap₂ (λ a b. a && b) (sorted-true s e l) (sorted-row-true s e rest)

-- a term whose literals are in order has the same weights
pub weight-sorted : (s : Setting) (w : List Value → ℕ) (t : Term) → weight s w (term_sorted t) ≡ weight s w t
weight-sorted s w t =
    total-same _ _ (λ c. ap (λ b. when b (w (head_of s t.head c))) (sorted_once-true s c (map lit_sorted t.lits) ∙ each c t.lits)) (choices s t.vars)
  where
    each : (c : Env) (ls : List Lit) → lits_true s c (map lit_sorted ls) ≡ lits_true s c ls
    each c [] = refl
    each c (l ∷ ls) = ap₂ (λ a b. a && b) (sorted-true s c l) (each c ls)

-- the tidied expression has the same bag
pub tidied-bag : (s : Setting) (e : Expr) → SameBag (bag s (tidied e)) (bag s e)
tidied-bag s e = same-bag s (terms_tidied e.terms) e.terms each
  where
    each : (w : List Value → ℕ) → total (weight s w) (terms_tidied e.terms) ≡ total (weight s w) e.terms
    each w =
        total-sorted term_order (weight s w) (map (λ t. term_sorted (term_arranged t)) e.terms)
        ∙ total-map (weight s w) (λ t. term_sorted (term_arranged t)) e.terms
        ∙ total-same _ _ (λ t. weight-sorted s w (term_arranged t) ∙ weight-arranged s w t) e.terms
