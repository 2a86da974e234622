-- What a model of clauses is, and which model comes first.
use Rattle.std.specs.Prelude.{◌≡◌, ℕ, ◌<◌, Bool, true, false, List, length, slice_index_or, All, Any}
use Rattle.mig_sat.specs.declared.clauses.SatLit.{SatLit}
use Rattle.mig_sat.specs.declared.clauses.Cnf.{Cnf}

-- what an assignment gives a variable; false past its end
abbrev pub value_of : List Bool → ℕ → Bool
value_of m v = slice_index_or m v false

-- the assignment makes the literal true
abbrev pub HoldsLit : List Bool → SatLit → Type 0
HoldsLit m l = value_of m l.var ≡ l.positive

-- a model has a value for each variable, and makes a literal of each clause true
pub record IsModel (cnf : Cnf) (m : List Bool) : Type 0 where
  pub sized : length m ≡ cnf.vars
  pub meets : All (Any (HoldsLit m)) cnf.clauses

-- a comes before b: at the first variable at which they differ a is true
pub record IsBefore (a b : List Bool) : Type 0 where
  pub place : ℕ
  pub here : value_of a place ≡ true
  pub there : value_of b place ≡ false
  pub same : (v : ℕ) → v < place → value_of a v ≡ value_of b v

-- it is a model, and no model comes before it
pub record IsFirstModel (cnf : Cnf) (m : List Bool) : Type 0 where
  pub model : IsModel cnf m
  pub first : (other : List Bool) → IsModel cnf other → IsBefore other m → ⊥

-- no assignment is a model
abbrev pub HasNoModel : Cnf → Type 0
HasNoModel cnf = (m : List Bool) → IsModel cnf m → ⊥

-- the variable of each literal is below the number of variables
abbrev pub IsInRange : Cnf → Type 0
IsInRange cnf = All (All (λ (l : SatLit). l.var < cnf.vars)) cnf.clauses
