use Rattle.std.proofs.Common.{◌≡◌, ◌++◌, take}
use Rattle.mig_literals.proofs.rejoining.push_lits.Given as goal

abbrev pub invariant-loop-lit : goal.invariant-loop-lit
invariant-loop-lit l = l.all ≡ l.initial.all ++ take l.lit-index l.lits
