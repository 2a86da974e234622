use Rattle.std.proofs.Common.{◌≡◌, [], ◌++◌, take, drop}
use Rattle.mig_replacing.specs.Replaced.{first_met}
use Rattle.mig_replacing.proofs.spreading.each_first.Given as goal

abbrev pub invariant-loop-at : goal.invariant-loop-at
invariant-loop-at l = first_met [] l.bodies ≡ l.alternatives.items ++ first_met (take l.at l.bodies) (drop l.at l.bodies)
