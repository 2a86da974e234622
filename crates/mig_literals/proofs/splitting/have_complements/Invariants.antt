use Rattle.std.proofs.Common.{◌≡◌, drop}
use Rattle.std.specs.List.{list_all}
use Rattle.mig_classes.specs.Given.{has_complement}
use Rattle.mig_literals.proofs.splitting.have_complements.Given as goal

abbrev pub invariant-loop-lit : goal.invariant-loop-lit
invariant-loop-lit l = list_all has_complement l.lits ≡ list_all has_complement (drop l.lit-index l.lits)
