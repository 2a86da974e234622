use Rattle.std.proofs.Common.{◌≡◌, ℕ, ◌<◌, false}
use Rattle.mig_base.specs.Lists.{again}
use Rattle.mig_typing.proofs.again.first_again.Given as goal

abbrev pub invariant-loop-k : goal.invariant-loop-k
invariant-loop-k g l = (j : ℕ) → j < l.k → again g.T.Alike.like l.items j ≡ false
