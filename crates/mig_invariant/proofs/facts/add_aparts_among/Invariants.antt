use Rattle.std.proofs.Common.{◌≡◌, ◌++◌, take}
use Rattle.std.specs.List.{flat_map}
use Rattle.mig_invariant.specs.Candidates.{aparts_from}
use Rattle.mig_invariant.proofs.facts.add_aparts_among.Given as goal

abbrev pub invariant-loop-left : goal.invariant-loop-left
invariant-loop-left l = l.list.items ≡ l.fn.list.items ++ flat_map (aparts_from l.side l.columns) (take l.left-index l.columns)
