-- The text of an answer.
use Rattle.std.specs.Prelude.{◌≡◌, ◌⊎◌, ℕ, ◌+◌, Bool, true, false, List, [], ◌∷◌, ◌++◌, codes, decimal, Option, Some, None}
use Rattle.mig_sat.specs.declared.clauses.Cnf.{Cnf}
use Rattle.mig_sat.specs.declared.clauses.Model.{Model}
use Rattle.mig_sat.specs.Models.{IsFirstModel, HasNoModel}
use Rattle.mig_dimacs.specs.Formulas.{IsCnfText}

-- a variable as the literal that is true
abbrev pub value_text : ℕ → Bool → List ℕ
value_text n true = codes " " ++ decimal n
value_text n false = codes " -" ++ decimal n

-- the values of the variables from n on
abbrev pub values_text : ℕ → List Bool → List ℕ
values_text n [] = []
values_text n (b ∷ bs) = value_text n b ++ values_text (n + 1) bs

-- the line of a model
abbrev pub model_text : List Bool → List ℕ
model_text values = codes "v" ++ (values_text 1 values ++ codes " 0\n")

-- the answer for a model, or for none
abbrev pub answer_text : Option Model → List ℕ
answer_text None = codes "s UNSATISFIABLE\n"
answer_text (Some m) = codes "s SATISFIABLE\n" ++ model_text m.values

-- the first model of the clauses is told, or that they have none
abbrev pub IsAnswer : Cnf → List ℕ → Type 0
IsAnswer cnf text = ((m : Model) × IsFirstModel cnf m.values × (text ≡ answer_text (Some m))) ⊎ (HasNoModel cnf × (text ≡ answer_text None))

-- the answer for the clauses that the bytes spell
abbrev pub IsAnswerTo : List ℕ → List ℕ → Type 0
IsAnswerTo bytes text = (cnf : Cnf) × IsCnfText bytes cnf × IsAnswer cnf text
