use Rattle.std.proofs.Common.{◌≡◌, ◌++◌, [], drop}
use Rattle.mig_literals.specs.Split.{first_false}
use Rattle.mig_literals.proofs.splitting.first_false.Given as goal

abbrev pub invariant-loop-lit : goal.invariant-loop-lit
invariant-loop-lit l = first_false [] l.lits ≡ l.all ++ first_false l.before (drop l.lit-index l.lits)
