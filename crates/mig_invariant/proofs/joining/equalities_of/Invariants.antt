use Rattle.std.proofs.Common.{◌≡◌, take}
use Rattle.mig_invariant.specs.Candidates as spec
use Rattle.mig_invariant.proofs.joining.equalities_of.Given as goal

abbrev pub invariant-loop-join : goal.invariant-loop-join
invariant-loop-join l = l.list.items ≡ spec.equalities_of (take l.join-index l.joins)
