use Rattle.std.proofs.Common.{◌≡◌, drop}
use Rattle.std.specs.List.{list_any}
use Rattle.mig_classes.specs.Given.{is_denied}
use Rattle.mig_classes.proofs.deciding.some_denied.Given as goal

abbrev pub invariant-loop-lit : goal.invariant-loop-lit
invariant-loop-lit l = list_any (is_denied l.scope l.groups.lits.now) l.groups.lits.now ≡ list_any (is_denied l.scope l.groups.lits.now) (drop l.lit-index l.groups.lits.now)
