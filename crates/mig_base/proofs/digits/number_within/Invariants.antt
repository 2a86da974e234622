use Rattle.std.proofs.Common.{◌≡◌, ◌≤◌, drop}
use Rattle.mig_base.specs.Digits as spec
use Rattle.mig_base.proofs.digits.number_within.Given as goal

abbrev pub invariant-loop-b : goal.invariant-loop-b
invariant-loop-b l = (l.value ≤ l.most) × (spec.digits_from l.value (drop l.b-index l.digits) ≡ spec.digits_from 0 l.digits)
