use Rattle.std.proofs.Common.{◌≡◌, map, take}
use Rattle.mig_replacing.specs.Replaced.{with_lits}
use Rattle.mig_steps.proofs.replacing.terms_of.Given as goal

abbrev pub invariant-loop-list : goal.invariant-loop-list
invariant-loop-list l = l.terms ≡ map (with_lits l.term) (take l.list-index l.list-items)
