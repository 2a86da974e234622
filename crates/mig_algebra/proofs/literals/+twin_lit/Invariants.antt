use Rattle.std.proofs.Common.{◌≡◌, take}
use Rattle.mig_algebra.proofs.literals.+twin_lit.Given as goal

abbrev pub invariant-twin_lits-loop-lit : goal.invariant-twin_lits-loop-lit
invariant-twin_lits-loop-lit l = l.twins.items ≡ take l.lit-index l.lits
