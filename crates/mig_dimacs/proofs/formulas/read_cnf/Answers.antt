use Rattle.std.proofs.Common.{sym, subst}
use Rattle.mig_sat.specs.declared.clauses.Cnf.{Cnf}
use Rattle.mig_sat.specs.Models.{IsInRange}
use Rattle.mig_dimacs.proofs.InRange.{cnf_in_range}
use Rattle.mig_dimacs.proofs.formulas.read_cnf.Goals as goal

pub returns-clause-found : goal.returns-clause-found
returns-clause-found c = (c.in_ok-text.text, c.in_ok-text.ensures.found, c.in_ok-cnf_of.ensures)

pub returns-clause-range : goal.returns-clause-range
returns-clause-range c = subst (λ (f : Cnf). IsInRange f) (sym c.in_ok-cnf_of.ensures) (cnf_in_range c.in_ok-text.text c.in_ok-text.ensures.found.whole)
