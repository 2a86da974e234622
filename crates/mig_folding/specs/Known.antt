-- Which literals of a body are known where it stands, with variables outside it in place of its own.
use Rattle.std.specs.Prelude.{ℕ, ◌+◌, ◌-◌, nat_lt, Bool, cond, List, length, slice_index_or}
use Rattle.std.specs.List.{list_any}
use Rattle.std.specs.Ordering.{is_eq}
use Rattle.mig_algebra.specs.declared.literals.Lit.{Lit, Cmp, Other, Any'}
use Rattle.mig_algebra.specs.Orders.{lit_order}
use Rattle.mig_algebra.specs.Rename.{lit_with, renumbered}
use Rattle.mig_classes.specs.Given.{is_given}
use Rattle.mig_replacing.specs.Places.{others}
use Rattle.mig_steps.specs.Spots.{ListAround, Seen}

-- what is written for a variable where n are in scope around a body: for one of the body's own the one of these names, and those of bodies in it go down
abbrev pub put : (n : ℕ) → (names : List ℕ) → ℕ → ℕ
put n names v = cond (nat_lt v n) v (cond (nat_lt (v - n) (length names)) (slice_index_or names (v - n) 0) (v - length names))

-- a literal of the body with them
abbrev pub lit_put : (n : ℕ) → (names : List ℕ) → Lit → Lit
lit_put n names l = lit_with (renumbered (put n names)) (put n names) l

-- a variable's number where a literal comes from where k are in scope to where n are: those that it binds go up
abbrev pub further : (k n : ℕ) → ℕ → ℕ
further k n v = cond (nat_lt v k) v (v + (n - k))

-- whether literal l, where n are in scope, is literal m, as if m stood there too
abbrev pub stands_as : (n : ℕ) → Lit → (k : ℕ) → Lit → Bool
stands_as n l k m = is_eq (lit_order l (lit_with (renumbered (further k n)) (further k n) m))

-- whether it is one of the other literals of a list
abbrev pub stands_in : (n : ℕ) → Lit → ListAround → Bool
stands_in n l list = list_any (stands_as n l list.count) (others list.lits list.at)

-- the same of some of these lists
abbrev pub stands_around : (n : ℕ) → Lit → List ListAround → Bool
stands_around n l lists = list_any (stands_in n l) lists

-- whether a comparison is given by the plain literals around the body, and any other literal stands in a list around it
abbrev pub is_known : Seen → (names : List ℕ) → Lit → Bool
is_known s names (Cmp op a b) = is_given s.scope s.around (lit_put (length s.scope) names (Cmp op a b))
is_known s names (Other a b) = stands_around (length s.scope) (lit_put (length s.scope) names (Other a b)) s.lists
is_known s names (Any' held vars n row) = stands_around (length s.scope) (lit_put (length s.scope) names (Any' held vars n row)) s.lists
