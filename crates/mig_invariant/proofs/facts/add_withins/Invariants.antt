use Rattle.std.proofs.Common.{◌≡◌, ◌++◌, take}
use Rattle.std.specs.List.{flat_map}
use Rattle.mig_invariant.specs.Candidates.{withins_from}
use Rattle.mig_invariant.proofs.facts.add_withins.Given as goal

abbrev pub invariant-loop-left : goal.invariant-loop-left
invariant-loop-left l = l.list.items ≡ l.fn.list.items ++ flat_map (withins_from l.side l.equalities l.columns) (take l.left-index l.columns)
