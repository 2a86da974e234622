use Rattle.std.proofs.Common.{◌≡◌, drop}
use Rattle.std.specs.List.{list_any}
use Rattle.mig_classes.specs.Given.{says}
use Rattle.mig_classes.proofs.deciding.is_said.Given as goal

abbrev pub invariant-loop-lit : goal.invariant-loop-lit
invariant-loop-lit l = list_any (says l.groups.lits.now l.op l.left l.right) l.groups.lits.now ≡ list_any (says l.groups.lits.now l.op l.left l.right) (drop l.lit-index l.groups.lits.now)
