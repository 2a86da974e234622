-- Which paths and arguments are tried.
use Rattle.std.specs.Prelude.{ℕ, ◌+◌, Bool, true, false, cond, not, ◌||◌, List, [], ◌∷◌, ◌++◌, map}
use Rattle.mig_algebra.specs.declared.literals.Lit.{Lit, Cmp, Other, Any', Row_of-Lit, end_of-Lit, more_of-Lit}
use Rattle.mig_algebra.specs.declared.terms.Term.{Term}
use Rattle.mig_steps.specs.Bodies.{is_body}

-- a literal's own path, from itself, where it is wanted: any literal's, or those of bodies alone
abbrev pub own_paths : (bodies : Bool) → Lit → List (List ℕ)
own_paths bodies l = cond (not bodies || is_body l) ([] ∷ []) []

-- the paths to the literals in a literal, in order
abbrev mutual
  pub paths_in : (bodies : Bool) → Lit → List (List ℕ)
  paths_in bodies (Cmp op a b) = []
  paths_in bodies (Other a b) = []
  paths_in bodies (Any' held vars n row) = paths_of_row bodies 0 row

  -- to those of a body, of which the first has number i
  pub paths_of_row : (bodies : Bool) → ℕ → {m : _} → Row_of-Lit m → List (List ℕ)
  paths_of_row bodies i end_of-Lit = []
  paths_of_row bodies i (more_of-Lit l rest) = map (λ p. i ∷ p) (own_paths bodies l ++ paths_in bodies l) ++ paths_of_row bodies (i + 1) rest

-- the paths to the literals of a list and in them, of which the first has number i
abbrev pub paths_from : (bodies : Bool) → ℕ → List Lit → List (List ℕ)
paths_from bodies i [] = []
paths_from bodies i (l ∷ ls) = map (λ p. i ∷ p) (own_paths bodies l ++ paths_in bodies l) ++ paths_from bodies (i + 1) ls

-- the path of a term alone
abbrev pub own_path : Term → List (List ℕ)
own_path t = [] ∷ []

-- the paths to all its literals
abbrev pub lit_paths : Term → List (List ℕ)
lit_paths t = paths_from false 0 t.lits

-- the paths to those that have a body
abbrev pub body_paths : Term → List (List ℕ)
body_paths t = paths_from true 0 t.lits

-- no path
abbrev pub no_path : Term → List (List ℕ)
no_path t = []

-- no arguments
abbrev pub bare : (path : List ℕ) → Term → List (List ℕ)
bare path t = [] ∷ []
