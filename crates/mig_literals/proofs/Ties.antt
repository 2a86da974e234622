-- Literals and terms that tie are one.
use Rattle.std.proofs.Common.{◌≡◌, true, false, refl, ap}
use Rattle.std.proofs.lemmas.Bool.{false_from_ne_true}
use Rattle.std.specs.declared.cmp.Ordering.{Ordering}
use Rattle.std.specs.declared.cmp.Ordering.TheVariants.{Less, Equal, Greater}
use Rattle.std.specs.Ordering.{is_eq}
use Rattle.mig_algebra.specs.declared.literals.Lit.{Lit}
use Rattle.mig_algebra.specs.declared.terms.Term.{Term}
use Rattle.mig_algebra.specs.Orders.{lit_order, term_order}
use Rattle.mig_algebra.proofs.OrderLaws.{lit_total, lit_tie, term_tie}
use Rattle.mig_algebra.proofs.SortedLaws.{ties_same}

tied : (o : Ordering) → is_eq o ≡ true → o ≡ Equal
tied Equal h = refl
tied Less h = cc
tied Greater h = cc

pub same-lits : (l m : Lit) → is_eq (lit_order l m) ≡ true → l ≡ m
same-lits l m h = lit_tie l m (tied (lit_order l m) h)

pub same-terms : (t u : Term) → is_eq (term_order t u) ≡ true → t ≡ u
same-terms t u h = term_tie t u (tied (term_order t u) h)

-- a literal ties with itself
pub own-lit : (l : Lit) → is_eq (lit_order l l) ≡ true
own-lit l = ap is_eq ((ties_same lit_order lit_total lit_tie l l).1 refl)

-- and with no other one
pub other-lits : (l m : Lit) → (l ≡ m → ⊥) → is_eq (lit_order l m) ≡ false
other-lits l m n = false_from_ne_true (is_eq (lit_order l m)) (λ h. n (same-lits l m h))
