-- What a rule sees of a literal at a path.
use Rattle.std.specs.Prelude.{ℕ, List, [], ◌∷◌, ◌++◌, length, take, slice_get, Option, Some, None}
use Rattle.mig_algebra.specs.declared.atoms.Var.{Var}
use Rattle.mig_algebra.specs.declared.literals.Lit.{Lit, Cmp, Other, Any', items-the_row-Lit}
use Rattle.mig_algebra.specs.declared.terms.Term.{Term}
use Rattle.mig_replacing.specs.Places.{others}
use Rattle.mig_replacing.specs.Given.{plain}

-- a list in or around which a literal stands: how many variables are in scope there, its literals, and the number of the one that leads to the literal or is it
pub record ListAround : Type 0 where
  pub count : ℕ
  pub lits : List Lit
  pub at : ℕ

-- what is seen of a literal: the variables in scope, the lists around it from the outside in, the other plain literals of these lists, those before it in its own list, and itself
pub record Seen : Type 0 where
  pub scope : List Var
  pub lists : List ListAround
  pub around : List Lit
  pub earlier : List Lit
  pub lit : Lit

-- the list of a literal of number i, where so many variables are in scope
abbrev pub list_at : (count : ℕ) → List Lit → (i : ℕ) → ListAround
list_at n lits i = record { count = n; lits = lits; at = i }

-- a literal at its place
abbrev pub seen_of : List Var → List ListAround → (around earlier : List Lit) → Lit → Seen
seen_of scope lists ps es l = record { scope = scope; lists = lists; around = ps; earlier = es; lit = l }

-- the literal at a path within a literal, if there is one
abbrev pub spot_in : List Var → List ListAround → (around earlier : List Lit) → Option Lit → (path : List ℕ) → Option Seen
spot_in scope lists ps es None path = None
spot_in scope lists ps es (Some l) [] = Some (seen_of scope lists ps es l)
spot_in scope lists ps es (Some (Any' held vars n row)) (j ∷ path) =
    let lits = items-the_row-Lit _ row in
    spot_in (scope ++ vars) (lists ++ list_at (length (scope ++ vars)) lits j ∷ []) (ps ++ plain (others lits j)) (take j lits) (slice_get lits j) path
spot_in scope lists ps es (Some (Cmp op a b)) (j ∷ path) = None
spot_in scope lists ps es (Some (Other a b)) (j ∷ path) = None

-- the literal at a path in a term, if there is one
abbrev pub spot_at : Term → (path : List ℕ) → Option Seen
spot_at t [] = None
spot_at t (j ∷ path) = spot_in t.vars (list_at (length t.vars) t.lits j ∷ []) (plain (others t.lits j)) (take j t.lits) (slice_get t.lits j) path
