use Rattle.std.proofs.Common.{◌≡◌, take}
use Rattle.mig_classes.specs.Classes.{equated}
use Rattle.mig_classes.proofs.closing.equated.Given as goal

abbrev pub invariant-loop-lit : goal.invariant-loop-lit
invariant-loop-lit l = l.atoms.items ≡ equated (take l.lit-index l.lits)
