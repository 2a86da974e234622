use Rattle.std.proofs.Common.{◌≡◌, drop}
use Rattle.mig_literals.specs.Implied.{is_one_of}
use Rattle.mig_literals.proofs.implying.is_one_of.Given as goal

abbrev pub invariant-loop-other : goal.invariant-loop-other
invariant-loop-other l = is_one_of l.lits l.lit ≡ is_one_of (drop l.other-index l.lits) l.lit
