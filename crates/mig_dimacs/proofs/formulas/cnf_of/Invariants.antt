use Rattle.std.proofs.Common.{◌≡◌, map, take}
use Rattle.mig_dimacs.specs.Formulas.{lits_of}
use Rattle.mig_dimacs.proofs.formulas.cnf_of.Given as goal

abbrev pub invariant-loop-clause : goal.invariant-loop-clause
invariant-loop-clause l = l.clauses.items ≡ map lits_of (take l.clause-index l.text.clauses)
