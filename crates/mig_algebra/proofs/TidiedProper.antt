-- The tidied expression is proper where the expression was.
use Rattle.std.proofs.Common.{◌≡◌, ℕ, Bool, true, ◌&&◌, List, [], ◌∷◌, map, None, refl, sym, ap₂, ◌∙◌}
use Rattle.std.specs.List.{list_all}
use Rattle.std.proofs.lemmas.List.Folds.{list_all-map}
use Rattle.mig_schema.specs.declared.tables.Kind.{Kind}
use Rattle.mig_meaning.proofs.Within.{each-map}
use Rattle.mig_algebra.specs.declared.atoms.Var.{Var}
use Rattle.mig_algebra.specs.declared.literals.Lit.{Lit}
use Rattle.mig_algebra.specs.declared.terms.Term.{Term}
use Rattle.mig_algebra.specs.declared.terms.Expr.{Expr}
use Rattle.mig_algebra.specs.Orders.{term_order}
use Rattle.mig_algebra.specs.Tidied.{slots_in_order, numbers_of, vars_of, lit_arranged, lit_sorted, term_arranged, term_sorted, tidied}
use Rattle.mig_algebra.specs.Proper.{Sides, lit_fits, lit_oriented, IsProperTerm, IsProper}
use Rattle.mig_algebra.proofs.InOrder.{each-sorted}
use Rattle.mig_algebra.proofs.Arranged.{no_numbers, numbers-more, arranges-none}
use Rattle.mig_algebra.proofs.ArrangedFits.{Scopes, scopes-more, vars-fit, arranged-fits, renumbered-kinds}
use Rattle.mig_algebra.proofs.SortedFits.{in_order-passes, sorted-fits, sorted-oriented}

all-same : {X : Type 0} (t u : X → Bool) → ((x : X) → t x ≡ u x) → (xs : List X) → list_all t xs ≡ list_all u xs
all-same t u h [] = refl
all-same t u h (x ∷ xs) = ap₂ (λ a b. a && b) (h x) (all-same t u h xs)

all-true : {X : Type 0} (t : X → Bool) → ((x : X) → t x ≡ true) → (xs : List X) → list_all t xs ≡ true
all-true t h [] = refl
all-true t h (x ∷ xs) = ap₂ (λ a b. a && b) (h x) (all-true t h xs)

-- a term whose variables and literals are in order
pub proper-term : (p : Sides) (kinds : List Kind) (t : Term) → IsProperTerm p kinds t → IsProperTerm p kinds (term_sorted (term_arranged t))
proper-term p kinds t h = record {
  vars = sym (vars-fit p 0 t.vars) ∙ h.vars;
  fits = in_order-passes (lit_fits p vars') (map lit_sorted lits')
      ∙ list_all-map (lit_fits p vars') lit_sorted lits' ∙ all-same _ _ (sorted-fits p vars') lits'
      ∙ list_all-map (lit_fits p vars') (lit_arranged old) t.lits ∙ sym (all-same _ _ (arranged-fits p old t.vars vars' (numbers-more [] t.vars no_numbers) scopes) t.lits) ∙ h.fits;
  oriented = in_order-passes lit_oriented (map lit_sorted lits') ∙ list_all-map lit_oriented lit_sorted lits' ∙ all-true _ sorted-oriented lits';
  head = sym (renumbered-kinds p old t.vars vars' scopes t.head) ∙ h.head;
}
  where
    old : List ℕ
    old = numbers_of (slots_in_order 0 t.vars)

    vars' : List Var
    vars' = vars_of (slots_in_order 0 t.vars)

    lits' : List Lit
    lits' = map (lit_arranged old) t.lits

    scopes : Scopes old t.vars vars'
    scopes = scopes-more [] t.vars [] [] no_numbers (arranges-none None)

-- the tidied expression is proper
pub tidied-proper : (p : Sides) (e : Expr) → IsProper p e → IsProper p (tidied e)
tidied-proper p e h = record {
  kinds = h.kinds;
  terms = each-sorted term_order (IsProperTerm p h.kinds) (map (λ t. term_sorted (term_arranged t)) e.terms)
      (each-map (IsProperTerm p h.kinds) (IsProperTerm p h.kinds) (λ t. term_sorted (term_arranged t)) (λ t. proper-term p h.kinds t) e.terms h.terms);
}
