use Rattle.std.proofs.Common.{◌≡◌, take}
use Rattle.mig_steps.proofs.spots.twins.Given as goal

abbrev pub invariant-loop-lit : goal.invariant-loop-lit
invariant-loop-lit l = l.copies ≡ take l.lit-index l.lits
