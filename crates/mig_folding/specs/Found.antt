-- A body is decided that variables outside it meet. The arguments: these variables, one for each of the body's.
use Rattle.std.specs.Prelude.{ℕ, ◌+◌, ◌==◌, nat_lt, Bool, true, false, cond, not, ◌&&◌, ◌||◌, List, [], ◌∷◌, length, slice_get, Option, Some, None}
use Rattle.std.specs.List.{list_all}
use Rattle.std.specs.Ordering.{is_eq}
use Rattle.mig_algebra.specs.declared.atoms.Var.{Var}
use Rattle.mig_algebra.specs.declared.literals.Lit.{Lit, Cmp, Other, Any'}
use Rattle.mig_algebra.specs.declared.terms.Term.{Term}
use Rattle.mig_algebra.specs.Orders.{var_order}
use Rattle.mig_algebra.specs.Scope.{atom_scoped}
use Rattle.mig_listing.specs.Chosen.{chosen}
use Rattle.mig_steps.specs.Bodies.{by_body}
use Rattle.mig_steps.specs.Spots.{Seen, spot_at}
use Rattle.mig_folding.specs.Known.{is_known}

-- whether a variable is there, of the side, table and stage of v
abbrev pub is_alike : Var → Option Var → Bool
is_alike v None = false
is_alike v (Some w) = is_eq (var_order v w)

-- whether these are numbers of variables in scope that are alike the first of the body's, one for each
abbrev pub stand_first : (scope : List Var) → (names : List ℕ) → (vars : List Var) → Bool
stand_first scope [] vars = true
stand_first scope (x ∷ xs) [] = false
stand_first scope (x ∷ xs) (v ∷ vs) = is_alike v (slice_get scope x) && stand_first scope xs vs

-- the same of all of the body's
abbrev pub stand_for : (scope : List Var) → (names : List ℕ) → (vars : List Var) → Bool
stand_for scope names vars = length names == length vars && stand_first scope names vars

-- one alternative without literals for a body that is held, and none for one that is not
abbrev pub met_alternatives : Bool → List (List Lit)
met_alternatives true = [] ∷ []
met_alternatives false = []

-- where these variables stand for the body's, and all that the body asks of them is known
abbrev pub found_in : (names : List ℕ) → Seen → Bool → (vars : List Var) → List Lit → Option (List (List Lit))
found_in names s held vars lits = cond (stand_for s.scope names vars && list_all (is_known s names) lits) (Some (met_alternatives held)) None

-- the rule
abbrev pub found : List ℕ → Seen → Option (List (List Lit))
found names s = by_body (found_in names s) None s.lit

-- ---- what is tried

-- whether a comparison or an `Other` names none but the first n variables
abbrev pub names_first : (n : ℕ) → Lit → Bool
names_first n (Cmp op a b) = atom_scoped n a && atom_scoped n b
names_first n (Other a b) = nat_lt a n && nat_lt b n
names_first n (Any' held vars m row) = false

-- whether a literal may be known where these stand for the first of the body's variables: it is, or it names more than these, or has a body
abbrev pub may_be_known : Seen → (front : List ℕ) → Lit → Bool
may_be_known s front l = not (names_first (length s.scope + length front) l) || is_known s front l

-- whether these may stand first
abbrev pub may_find : Seen → (vars : List Var) → List Lit → (front : List ℕ) → Bool
may_find s vars lits front = stand_first s.scope front vars && list_all (may_be_known s front) lits

-- for a body, all lists of variables outside it of which each front may stand first
abbrev pub found_among : Seen → (vars : List Var) → List Lit → List (List ℕ)
found_among s vars lits = chosen (may_find s vars lits) (length s.scope) (length vars) []

-- for the literal that is seen at a path, if it has a body
abbrev pub found_at : Option Seen → List (List ℕ)
found_at None = []
found_at (Some s) = by_body (λ held vars lits. found_among s vars lits) [] s.lit

abbrev pub found_args : (path : List ℕ) → Term → List (List ℕ)
found_args path t = found_at (spot_at t path)
