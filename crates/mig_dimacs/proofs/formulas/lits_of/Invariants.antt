use Rattle.std.proofs.Common.{◌≡◌, map, take}
use Rattle.mig_dimacs.specs.Formulas.{lit_of}
use Rattle.mig_dimacs.proofs.formulas.lits_of.Given as goal

abbrev pub invariant-loop-number : goal.invariant-loop-number
invariant-loop-number l = l.lits.items ≡ map lit_of (take l.number-index l.numbers)
