use Rattle.std.proofs.Common.{◌≡◌, ◌++◌, drop}
use Rattle.mig_unfolding.specs.Narrowed.{narrowed}
use Rattle.mig_unfolding.proofs.narrowing.Newest.narrowed.Given as goal

abbrev pub invariant-loop-x : goal.invariant-loop-x
invariant-loop-x l = narrowed l.self.var.now l.self.number l.initial.at l.lits l.vars ≡ l.all ++ narrowed l.self.var.now l.self.number l.at l.lits (drop l.x-index l.vars)
