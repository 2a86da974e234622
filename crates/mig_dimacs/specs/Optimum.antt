-- The text of an answer for clauses with weights.
use Rattle.std.specs.Prelude.{◌≡◌, ◌⊎◌, ℕ, Bool, List, ◌++◌, codes, decimal, None}
use Rattle.mig_sat.specs.declared.clauses.Model.{Model}
use Rattle.mig_sat.specs.Models.{HasNoModel}
use Rattle.mig_dimacs.specs.declared.soft.Wcnf.{Wcnf}
use Rattle.mig_dimacs.specs.Costs.{cost, IsCheapest}
use Rattle.mig_dimacs.specs.Answers.{answer_text, model_text}
use Rattle.mig_dimacs.specs.Softs.{IsWcnfText}

-- what a model costs, and its line
abbrev pub optimum_text : Wcnf → List Bool → List ℕ
optimum_text p m = codes "o " ++ (decimal (cost p.soft m) ++ (codes "\ns OPTIMUM FOUND\n" ++ model_text m))

-- the first of the cheapest models is told, or that there is none
abbrev pub IsOptimum : Wcnf → List ℕ → Type 0
IsOptimum p text = ((m : Model) × IsCheapest p m.values × (text ≡ optimum_text p m.values)) ⊎ (HasNoModel p.hard × (text ≡ answer_text None))

-- the answer for the clauses with weights that the bytes spell
abbrev pub IsOptimumOf : List ℕ → List ℕ → Type 0
IsOptimumOf bytes text = (p : Wcnf) × IsWcnfText bytes p × IsOptimum p text
