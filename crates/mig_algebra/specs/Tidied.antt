-- Tidied expressions: variables, literals and terms in order.
use Rattle.std.specs.Prelude.{ℕ, List, [], ◌∷◌, ◌++◌, length, map}
use Rattle.std.specs.declared.cmp.Ordering.{Ordering}
use Rattle.std.specs.Ordering.{nat_cmp, ordering_then}
use Rattle.mig_base.specs.Lists.{numbered}
use Rattle.mig_meaning.specs.Lists.{place}
use Rattle.mig_algebra.specs.declared.atoms.Var.{Var}
pub use Rattle.mig_algebra.specs.declared.arranging.Slot.{Slot}
use Rattle.mig_algebra.specs.declared.literals.Lit.{Lit, Cmp, Other, Any', Row_of-Lit, end_of-Lit, more_of-Lit}
use Rattle.mig_algebra.specs.declared.literals.Lit.TheVariants.{Any}
use Rattle.mig_algebra.specs.declared.terms.Term.{Term}
use Rattle.mig_algebra.specs.declared.terms.Expr.{Expr}
use Rattle.mig_algebra.specs.Atoms.{oriented}
use Rattle.mig_algebra.specs.Orders.{var_order, lit_order, term_order}
use Rattle.mig_algebra.specs.Rename.{renumbered}
use Rattle.mig_algebra.specs.Sorted.{sorted, sorted_once}

-- ---- variables in order

-- variables by side, table and stage; equal ones stay in their order
abbrev pub slot_order : Slot → Slot → Ordering
slot_order p q = ordering_then (var_order p.var q.var) (nat_cmp p.number q.number)

-- variables with their numbers, from n on
abbrev pub slots : ℕ → List Var → List Slot
slots n vars = numbered (λ k (v : Var). record { number = k; var = v }) n vars

-- the same in order
abbrev pub slots_in_order : ℕ → List Var → List Slot
slots_in_order n vars = sorted slot_order (slots n vars)

-- their numbers
abbrev pub numbers_of : List Slot → List ℕ
numbers_of ps = map (λ (p : Slot). p.number) ps

-- their variables
abbrev pub vars_of : List Slot → List Var
vars_of ps = map (λ (p : Slot). p.var) ps

-- A literal whose bodies have their variables in order, and in which each variable has its new number. `old` has the old numbers of the variables in scope, in their new order: a variable's new number is its place there.
abbrev mutual
  pub lit_arranged : List ℕ → Lit → Lit
  lit_arranged old (Cmp op a b) = Cmp op (renumbered (place old) a) (renumbered (place old) b)
  lit_arranged old (Other a b) = Other (place old a) (place old b)
  lit_arranged old (Any' held vars n lits) =
      Any' held (vars_of (slots_in_order (length old) vars)) n (row_arranged (old ++ numbers_of (slots_in_order (length old) vars)) lits)

  pub row_arranged : List ℕ → {m : _} → Row_of-Lit m → Row_of-Lit m
  row_arranged old end_of-Lit = end_of-Lit
  row_arranged old (more_of-Lit l rest) = more_of-Lit (lit_arranged old l) (row_arranged old rest)

-- ---- literals in order

-- a literal in which comparisons are oriented, and the literals of bodies in order, from the inside out, equal ones once
abbrev mutual
  pub lit_sorted : Lit → Lit
  lit_sorted (Cmp op a b) = oriented op a b
  lit_sorted (Other a b) = Other a b
  lit_sorted (Any' held vars n lits) = Any held (record { vars = vars; lits = sorted_once lit_order (row_sorted lits) })

  pub row_sorted : {m : _} → Row_of-Lit m → List Lit
  row_sorted end_of-Lit = []
  row_sorted (more_of-Lit l rest) = lit_sorted l ∷ row_sorted rest

-- ---- terms

-- a term whose variables are in order
abbrev pub term_arranged : Term → Term
term_arranged t = record {
  vars = vars_of (slots_in_order 0 t.vars);
  lits = map (lit_arranged (numbers_of (slots_in_order 0 t.vars))) t.lits;
  head = map (renumbered (place (numbers_of (slots_in_order 0 t.vars)))) t.head;
}

-- a term whose literals are in order
abbrev pub term_sorted : Term → Term
term_sorted t = record { vars = t.vars; lits = sorted_once lit_order (map lit_sorted t.lits); head = t.head }

-- variables in order, then literals, then terms, all of which are kept
abbrev pub terms_tidied : List Term → List Term
terms_tidied ts = sorted term_order (map (λ t. term_sorted (term_arranged t)) ts)

-- the tidied expression
abbrev pub tidied : Expr → Expr
tidied e = record { terms = terms_tidied e.terms }
