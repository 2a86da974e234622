use Rattle.std.proofs.Common.{sym, subst}
use Rattle.mig_dimacs.specs.declared.soft.Wcnf.{Wcnf}
use Rattle.mig_dimacs.specs.Costs.{IsSoundWcnf}
use Rattle.mig_dimacs.proofs.SoftRange.{wcnf_sound}
use Rattle.mig_dimacs.proofs.soft.read_wcnf.Goals as goal

pub returns-clause-found : goal.returns-clause-found
returns-clause-found c = (c.in_ok-text.text, c.in_ok-text.ensures.found, c.in_ok-wcnf_of.ensures)

pub returns-clause-sound : goal.returns-clause-sound
returns-clause-sound c = subst (λ (w : Wcnf). IsSoundWcnf w) (sym c.in_ok-wcnf_of.ensures) (wcnf_sound c.in_ok-text.text c.in_ok-text.ensures.found.whole)
