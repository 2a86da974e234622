use Rattle.std.proofs.Common.{◌≡◌, ℕ, List, Option, Some, None, IfSome, IfNone, inl, inr}
use Rattle.mig_sat.specs.declared.clauses.Cnf.{Cnf}
use Rattle.mig_sat.specs.declared.clauses.Model.{Model}
use Rattle.mig_sat.specs.Models.{IsFirstModel, HasNoModel}
use Rattle.mig_dimacs.specs.Answers.{answer_text, IsAnswer}
use Rattle.mig_dimacs.proofs.answers.sat_answer.Goals as goal

-- a first model, or that there is none, as the answer tells it
tells : (cnf : Cnf) (found : Option Model) (text : List ℕ) → IfSome found (λ (m : Model). IsFirstModel cnf m.values) → IfNone found (HasNoModel cnf) → text ≡ answer_text found → IsAnswer cnf text
tells cnf None text first none is = inr (none, is)
tells cnf (Some m) text first none is = inl (m, first, is)

pub returns : goal.returns
returns c = tells c.args.cnf.now c.in_ok-found.found c.in_ok-text.text c.in_ok-found.ensures.first c.in_ok-found.ensures.none c.in_ok-text.ensures
