use Rattle.std.proofs.Common.{◌≡◌, ◌++◌, take}
use Rattle.mig_invariant.specs.Candidates.{withins_from}
use Rattle.mig_invariant.proofs.facts.add_withins_from.Given as goal

abbrev pub invariant-loop-right : goal.invariant-loop-right
invariant-loop-right l = l.list.items ≡ l.fn.list.items ++ withins_from l.side l.equalities (take l.right-index l.columns) l.left
