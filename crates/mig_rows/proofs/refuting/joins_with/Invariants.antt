use Rattle.std.proofs.Common.{◌≡◌, drop}
use Rattle.std.specs.List.{list_any}
use Rattle.mig_rows.specs.Never.{joins}
use Rattle.mig_rows.proofs.refuting.joins_with.Given as goal

abbrev pub invariant-loop-y : goal.invariant-loop-y
invariant-loop-y l = list_any (joins l.side l.left l.right l.scope l.groups.lits.now l.x) l.others ≡ list_any (joins l.side l.left l.right l.scope l.groups.lits.now l.x) (drop l.y-index l.others)
