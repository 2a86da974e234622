-- Where a literal stands: what is in scope there, and what stands around it.
use Rattle.std.specs.Prelude.{ℕ, ◌+◌, List, [], ◌∷◌, ◌++◌, length, map, take, drop, slice_get, Option, Some, None}
use Rattle.mig_algebra.specs.declared.atoms.Var.{Var}
use Rattle.mig_algebra.specs.declared.literals.Lit.{Lit, Cmp, Other, Any', items-the_row-Lit}
use Rattle.mig_algebra.specs.declared.terms.Term.{Term}

-- the other literals of a list than that of number i
abbrev pub others : List Lit → ℕ → List Lit
others lits i = take i lits ++ drop (i + 1) lits

-- a literal, and how many variables are in scope where it stands
pub record Standing : Type 0 where
  pub count : ℕ
  pub lit : Lit

-- A literal at its place: the variables in scope there, in their order, and all other literals of its list and of each list around it, from the outside in.
pub record Place : Type 0 where
  pub scope : List Var
  pub around : List Standing
  pub lit : Lit

-- literals where so many variables are in scope
abbrev pub standing : ℕ → List Lit → List Standing
standing n lits = map (λ l. record { count = n; lit = l }) lits

-- the literal at a path within a literal, if there is one: each number of the path is that of a literal in a body
abbrev pub place_within : List Var → List Standing → Option Lit → List ℕ → Option Place
place_within scope around None p = None
place_within scope around (Some l) [] = Some (record { scope = scope; around = around; lit = l })
place_within scope around (Some (Any' held vars n row)) (j ∷ p) =
    let lits = items-the_row-Lit _ row in
    place_within (scope ++ vars) (around ++ standing (length (scope ++ vars)) (others lits j)) (slice_get lits j) p
place_within scope around (Some (Cmp op a b)) (j ∷ p) = None
place_within scope around (Some (Other a b)) (j ∷ p) = None

-- the literal at a path in a term, if there is one
abbrev pub place_at : Term → List ℕ → Option Place
place_at t [] = None
place_at t (j ∷ p) = place_within t.vars (standing (length t.vars) (others t.lits j)) (slice_get t.lits j) p
