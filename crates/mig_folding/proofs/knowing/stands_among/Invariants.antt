use Rattle.std.proofs.Common.{◌≡◌, drop}
use Rattle.std.specs.List.{list_any}
use Rattle.mig_folding.specs.Known.{stands_as}
use Rattle.mig_folding.proofs.knowing.stands_among.Given as goal

abbrev pub invariant-loop-other : goal.invariant-loop-other
invariant-loop-other l = list_any (stands_as l.further.to l.lit l.further.from) l.lits ≡ list_any (stands_as l.further.to l.lit l.further.from) (drop l.other-index l.lits)
