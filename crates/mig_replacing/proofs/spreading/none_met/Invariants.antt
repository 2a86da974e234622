use Rattle.std.proofs.Common.{◌≡◌, map, take, false}
use Rattle.mig_algebra.specs.declared.literals.Lit.TheVariants.{Any}
use Rattle.mig_replacing.proofs.spreading.none_met.Given as goal

abbrev pub invariant-loop-body : goal.invariant-loop-body
invariant-loop-body l = l.lits.items ≡ map (Any false) (take l.body-index l.bodies)
