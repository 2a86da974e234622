use Rattle.std.proofs.Common.{◌≡◌, take}
use Rattle.mig_replacing.specs.Replaced.{bodies_of}
use Rattle.mig_steps.proofs.replacing.bodies_of.Given as goal

abbrev pub invariant-loop-list : goal.invariant-loop-list
invariant-loop-list l = l.bodies.items ≡ bodies_of l.vars (take l.list-index l.list-items)
