use Rattle.std.proofs.Common.{◌≡◌, ◌++◌, drop}
use Rattle.mig_replacing.specs.Given.{plain}
use Rattle.mig_steps.proofs.spots.push_plain.Given as goal

abbrev pub invariant-loop-lit : goal.invariant-loop-lit
invariant-loop-lit l = l.initial.all ++ plain l.lits ≡ l.all ++ plain (drop l.lit-index l.lits)
