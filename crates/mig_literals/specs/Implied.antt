-- A literal goes that is given, or repeats an earlier one of its list.
use Rattle.std.specs.Prelude.{ℕ, Bool, cond, List, [], ◌∷◌, Option, Some, None}
use Rattle.std.specs.List.{list_any}
use Rattle.std.specs.Ordering.{is_eq}
use Rattle.mig_algebra.specs.declared.literals.Lit.{Lit, Cmp, Other, Any'}
use Rattle.mig_algebra.specs.Orders.{lit_order}
use Rattle.mig_classes.specs.Given.{is_given}
use Rattle.mig_steps.specs.Spots.{Seen}

-- whether a literal is one of a list
abbrev pub is_one_of : List Lit → Lit → Bool
is_one_of ls l = list_any (λ m. is_eq (lit_order l m)) ls

-- whether a comparison is given by the plain literals around it, or an `Other` or a body stands earlier in its list
abbrev pub goes : Seen → Lit → Bool
goes s (Cmp op a b) = is_given s.scope s.around (Cmp op a b)
goes s (Other a b) = is_one_of s.earlier (Other a b)
goes s (Any' held vars n row) = is_one_of s.earlier (Any' held vars n row)

abbrev pub implied : List ℕ → Seen → Option (List (List Lit))
implied [] s = cond (goes s s.lit) (Some ([] ∷ [])) None
implied (a ∷ args) s = None
