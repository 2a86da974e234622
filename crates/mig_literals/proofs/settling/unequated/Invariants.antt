use Rattle.std.proofs.Common.{◌≡◌, ◌++◌, drop}
use Rattle.mig_literals.specs.Same.{unequated}
use Rattle.mig_literals.proofs.settling.unequated.Given as goal

abbrev pub invariant-loop-lit : goal.invariant-loop-lit
invariant-loop-lit l = unequated l.lits ≡ l.all.items ++ unequated (drop l.lit-index l.lits)
