-- A literal whose parts are in order fits where the literal fits, and its comparisons are oriented.
use Rattle.std.proofs.Common.{◌≡◌, Bool, true, ◌&&◌, List, [], ◌∷◌, ◌++◌, refl, ap, ap₂, ◌∙◌}
use Rattle.std.specs.List.{list_all}
use denote.Hole.Carrier.{hidden}
use Rattle.mig_algebra.specs.declared.atoms.Var.{Var}
use Rattle.mig_algebra.specs.declared.literals.Lit.{Lit, Cmp, Other, Any', Row_of-Lit, end_of-Lit, more_of-Lit}
use Rattle.mig_algebra.specs.declared.literals.Lit.TheBlock.{hidden-the_row-Lit-0}
use Rattle.mig_algebra.specs.declared.literals.Lit.TheVariants.{Any}
use Rattle.mig_algebra.specs.Orders.{lit_order}
use Rattle.mig_algebra.specs.Sorted.{sorted_once}
use Rattle.mig_algebra.specs.Tidied.{lit_sorted, row_sorted}
use Rattle.mig_algebra.specs.Proper.{Sides, var_fits, lit_fits, row_fits, lit_oriented, row_oriented}
use Rattle.mig_algebra.proofs.OrderLaws.{lit_tie}
use Rattle.mig_algebra.proofs.InOrder.{passes-sorted_once}
use Rattle.mig_algebra.proofs.OrientedFits.{oriented-fits, oriented-oriented}

-- ---- bodies by their lists

row_fits-list : (p : Sides) (sc : List Var) (xs : List Lit) → row_fits p sc (hidden-the_row-Lit-0 xs) ≡ list_all (lit_fits p sc) xs
unfolding hidden-the_row-Lit-0 hidden
row_fits-list p sc [] = refl
row_fits-list p sc (x ∷ xs) = ap (λ b. lit_fits p sc x && b) (row_fits-list p sc xs)

-- whether a body fits, by its list
pub any_fits : (p : Sides) (sc : List Var) (held : Bool) (vars : List Var) (xs : List Lit) → lit_fits p sc (Any held (record { vars = vars; lits = xs })) ≡ (list_all (var_fits p) vars && list_all (lit_fits p (sc ++ vars)) xs)
any_fits p sc held vars xs = ap (λ b. list_all (var_fits p) vars && b) (row_fits-list p (sc ++ vars) xs)

row_oriented-list : (xs : List Lit) → row_oriented (hidden-the_row-Lit-0 xs) ≡ list_all lit_oriented xs
unfolding hidden-the_row-Lit-0 hidden
row_oriented-list [] = refl
row_oriented-list (x ∷ xs) = ap (λ b. lit_oriented x && b) (row_oriented-list xs)

-- whether a body is oriented, by its list
pub any_oriented : (held : Bool) (vars : List Var) (xs : List Lit) → lit_oriented (Any held (record { vars = vars; lits = xs })) ≡ list_all lit_oriented xs
any_oriented held vars xs = row_oriented-list xs

-- ---- literals in order

-- a test of a list in order, equal ones once
pub in_order-passes : (t : Lit → Bool) (xs : List Lit) → list_all t (sorted_once lit_order xs) ≡ list_all t xs
in_order-passes t xs = passes-sorted_once lit_order t (λ x y h. ap t (lit_tie x y h)) xs

mutual
  -- whether a literal fits whose literals are in order
  pub sorted-fits : (p : Sides) (sc : List Var) (l : Lit) → lit_fits p sc (lit_sorted l) ≡ lit_fits p sc l
  sorted-fits p sc (Cmp op a b) = oriented-fits p sc op a b
  sorted-fits p sc (Other a b) = refl
  sorted-fits p sc (Any' held vars n lits) =
      any_fits p sc held vars (sorted_once lit_order (row_sorted lits))
      ∙ ap (λ b. list_all (var_fits p) vars && b) (in_order-passes (lit_fits p (sc ++ vars)) (row_sorted lits) ∙ sorted-row-fits p (sc ++ vars) lits)

  pub sorted-row-fits : (p : Sides) (sc : List Var) {m : _} (lits : Row_of-Lit m) → list_all (lit_fits p sc) (row_sorted lits) ≡ row_fits p sc lits
  sorted-row-fits p sc end_of-Lit = refl
  sorted-row-fits p sc (more_of-Lit l rest) = ap₂ (λ x y. x && y) (sorted-fits p sc l) (sorted-row-fits p sc rest)

mutual
  -- its comparisons are oriented
  pub sorted-oriented : (l : Lit) → lit_oriented (lit_sorted l) ≡ true
  sorted-oriented (Cmp op a b) = oriented-oriented op a b
  sorted-oriented (Other a b) = refl
  sorted-oriented (Any' held vars n lits) =
      any_oriented held vars (sorted_once lit_order (row_sorted lits)) ∙ in_order-passes lit_oriented (row_sorted lits) ∙ sorted-row-oriented lits

  pub sorted-row-oriented : {m : _} (lits : Row_of-Lit m) → list_all lit_oriented (row_sorted lits) ≡ true
  sorted-row-oriented end_of-Lit = refl
  sorted-row-oriented (more_of-Lit l rest) = ap₂ (λ x y. x && y) (sorted-oriented l) (sorted-row-oriented rest)
