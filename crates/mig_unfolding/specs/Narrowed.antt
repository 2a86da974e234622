-- What the `Other`s of a variable say once it stands for the row that was just inserted: the other variable stands for a row from before.
use Rattle.std.specs.Prelude.{ℕ, ◌+◌, ◌==◌, nat_lt, Bool, true, false, cond, not, ◌&&◌, ◌||◌, List, [], ◌∷◌, ◌++◌, length, slice_get, Option, Some, None}
use Rattle.std.specs.List.{list_any}
use Rattle.mig_algebra.specs.declared.atoms.Var.{Var}
use Rattle.mig_algebra.specs.declared.literals.Lit.{Lit, Cmp, Other, Any', Row_of-Lit, end_of-Lit, more_of-Lit, items-the_row-Lit}
use Rattle.mig_algebra.specs.declared.literals.Lit.TheVariants.{Any}
use Rattle.mig_algebra.specs.declared.terms.Term.{Term}
use Rattle.mig_algebra.specs.Proper.{same_side}
use Rattle.mig_unfolding.specs.Hosts.{var_before}

-- whether a literal is an `Other` of variable v
abbrev pub parts : (v : ℕ) → Lit → Bool
parts v (Cmp op a b) = false
parts v (Other a b) = a == v || b == v
parts v (Any' held vars n lits) = false

-- whether it keeps v and w apart
abbrev pub parts_two : (v w : ℕ) → Lit → Bool
parts_two v w (Cmp op a b) = false
parts_two v w (Other a b) = (a == v && b == w) || (a == w && b == v)
parts_two v w (Any' held vars n lits) = false

-- whether a literal directly in a list keeps w apart from v, another variable
abbrev pub names : (v w : ℕ) → List Lit → Bool
names v w lits = not (v == w) && list_any (parts_two v w) lits

-- whether x ranges over the rows that u does
abbrev pub is_same : (u x : Var) → Bool
is_same u x = same_side x.side u.side && (x.table == u.table && x.stage == u.stage)

-- whether x ranges over the rows of the same table at an earlier stage
abbrev pub is_older : (u : Var) → Option Var → Bool
is_older u None = false
is_older u (Some x) = same_side x.side u.side && (x.table == u.table && nat_lt x.stage u.stage)

-- the variables that a list of literals stands under, from number k on: each that is as u, and that the list keeps apart from v, one stage earlier
abbrev pub narrowed : (u : Var) → (v k : ℕ) → List Lit → List Var → List Var
narrowed u v k lits [] = []
narrowed u v k lits (x ∷ xs) = cond (names v k lits && is_same u x) (var_before x) x ∷ narrowed u v (k + 1) lits xs

-- a literal where so many variables are in scope, without the `Other`s of v; what these keep apart from v stands one stage earlier
abbrev mutual
  pub narrow_lit : (u : Var) → (v count : ℕ) → Lit → Lit
  narrow_lit u v n (Cmp op a b) = Cmp op a b
  narrow_lit u v n (Other a b) = Other a b
  narrow_lit u v n (Any' held vars m row) = Any held (record { vars = narrowed u v n (items-the_row-Lit _ row) vars; lits = narrow_row u v (n + length vars) row })

  pub narrow_row : (u : Var) → (v count : ℕ) → {m : _} → Row_of-Lit m → List Lit
  narrow_row u v n end_of-Lit = []
  narrow_row u v n (more_of-Lit l rest) = cond (parts v l) (narrow_row u v n rest) (narrow_lit u v n l ∷ narrow_row u v n rest)

-- the same of a list
abbrev pub narrow_list : (u : Var) → (v count : ℕ) → List Lit → List Lit
narrow_list u v n [] = []
narrow_list u v n (l ∷ ls) = cond (parts v l) (narrow_list u v n ls) (narrow_lit u v n l ∷ narrow_list u v n ls)

-- whether each variable that a literal keeps apart from v is of an earlier stage: `all` are the variables in scope, `seen` the same, but for those of the innermost host or body, which are narrowed
abbrev mutual
  pub lit_narrows : (u : Var) → (v : ℕ) → (all seen : List Var) → Lit → Bool
  lit_narrows u v all seen (Cmp op a b) = true
  lit_narrows u v all seen (Other a b) = cond (a == v) (is_older u (slice_get seen b)) (cond (b == v) (is_older u (slice_get seen a)) true)
  lit_narrows u v all seen (Any' held vars m row) = row_narrows u v (all ++ vars) (all ++ narrowed u v (length all) (items-the_row-Lit _ row) vars) row

  pub row_narrows : (u : Var) → (v : ℕ) → (all seen : List Var) → {m : _} → Row_of-Lit m → Bool
  row_narrows u v all seen end_of-Lit = true
  row_narrows u v all seen (more_of-Lit l rest) = lit_narrows u v all seen l && row_narrows u v all seen rest

-- the same of a list
abbrev pub list_narrows : (u : Var) → (v : ℕ) → (all seen : List Var) → List Lit → Bool
list_narrows u v all seen [] = true
list_narrows u v all seen (l ∷ ls) = lit_narrows u v all seen l && list_narrows u v all seen ls

-- a host under n variables, narrowed
abbrev pub narrowed_host : (u : Var) → (v n : ℕ) → Term → Term
narrowed_host u v n t = record { vars = narrowed u v n t.lits t.vars; lits = narrow_list u v (n + length t.vars) t.lits; head = t.head }

-- Whether each `Other` of v may go from a host under these variables: the other variable is of an earlier stage, or of the same one and the literal stands directly among those of the host or body that binds it.
abbrev pub host_narrows : (u : Var) → (v : ℕ) → (scope : List Var) → Term → Bool
host_narrows u v sc t = list_narrows u v (sc ++ t.vars) (sc ++ narrowed u v (length sc) t.lits t.vars) t.lits
