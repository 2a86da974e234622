use Rattle.mig_algebra.specs.Atoms.{atom_order}
use Rattle.mig_algebra.specs.Orders.{var_order, lit_order, term_order}
use Rattle.mig_algebra.proofs.OrderLaws.{atom_total, var_total, lit_total, term_total, atom_tie, var_tie, lit_tie, term_tie}
use Rattle.mig_algebra.proofs.SortedLaws.{ties_same}
use Rattle.mig_algebra.proofs.laws.equal_values_tie.Goals as goal

pub returns-clause-atoms : goal.returns-clause-atoms
returns-clause-atoms c = ties_same atom_order atom_total atom_tie

pub returns-clause-vars : goal.returns-clause-vars
returns-clause-vars c = ties_same var_order var_total var_tie

pub returns-clause-lits : goal.returns-clause-lits
returns-clause-lits c = ties_same lit_order lit_total lit_tie

pub returns-clause-terms : goal.returns-clause-terms
returns-clause-terms c = ties_same term_order term_total term_tie
