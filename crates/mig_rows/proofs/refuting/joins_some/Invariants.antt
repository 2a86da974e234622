use Rattle.std.proofs.Common.{◌≡◌, drop}
use Rattle.std.specs.List.{list_any}
use Rattle.mig_rows.specs.Never.{joins}
use Rattle.mig_rows.proofs.refuting.joins_some.Given as goal

abbrev pub invariant-loop-x : goal.invariant-loop-x
invariant-loop-x l = list_any (λ x. list_any (joins l.side l.left l.right l.scope l.groups.lits.now x) l.all) l.all ≡ list_any (λ x. list_any (joins l.side l.left l.right l.scope l.groups.lits.now x) l.all) (drop l.x-index l.all)
