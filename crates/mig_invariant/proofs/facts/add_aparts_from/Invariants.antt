use Rattle.std.proofs.Common.{◌≡◌, ◌++◌, take}
use Rattle.mig_invariant.specs.Candidates.{aparts_from}
use Rattle.mig_invariant.proofs.facts.add_aparts_from.Given as goal

abbrev pub invariant-loop-right : goal.invariant-loop-right
invariant-loop-right l = l.list.items ≡ l.fn.list.items ++ aparts_from l.side (take l.right-index l.columns) l.left
