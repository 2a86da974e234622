use Rattle.mig_algebra.proofs.OrderLaws.{atom_total, var_total, lit_total, term_total}
use Rattle.mig_algebra.proofs.laws.orders_are_total.Goals as goal

pub returns-clause-atoms : goal.returns-clause-atoms
returns-clause-atoms c = atom_total

pub returns-clause-vars : goal.returns-clause-vars
returns-clause-vars c = var_total

pub returns-clause-lits : goal.returns-clause-lits
returns-clause-lits c = lit_total

pub returns-clause-terms : goal.returns-clause-terms
returns-clause-terms c = term_total
