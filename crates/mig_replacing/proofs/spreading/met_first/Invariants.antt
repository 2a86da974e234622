use Rattle.std.proofs.Common.{◌≡◌, ◌∷◌, map, take, true, false}
use Rattle.std.specs.Prelude.{slice_index_or}
use Rattle.mig_algebra.specs.declared.literals.Inner.{Inner}
use Rattle.mig_algebra.specs.declared.literals.Lit.TheVariants.{Any}
use Rattle.mig_replacing.proofs.spreading.met_first.Given as goal

abbrev pub invariant-loop-k : goal.invariant-loop-k
invariant-loop-k l = (d : Inner) → l.lits.items ≡ Any true (slice_index_or l.bodies l.at d) ∷ map (Any false) (take l.k l.bodies)
