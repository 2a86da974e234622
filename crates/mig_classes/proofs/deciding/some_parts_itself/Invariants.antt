use Rattle.std.proofs.Common.{◌≡◌, drop}
use Rattle.std.specs.List.{list_any}
use Rattle.mig_classes.specs.Given.{parts_itself}
use Rattle.mig_classes.proofs.deciding.some_parts_itself.Given as goal

abbrev pub invariant-loop-lit : goal.invariant-loop-lit
invariant-loop-lit l = list_any parts_itself l.lits ≡ list_any parts_itself (drop l.lit-index l.lits)
