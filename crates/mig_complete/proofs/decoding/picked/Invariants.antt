use Rattle.std.proofs.Common.{◌≡◌, ℕ, ◌+◌, ◌<◌, false}
use Rattle.mig_sat.specs.Models.{value_of}
use Rattle.mig_complete.proofs.decoding.picked.Given as goal

abbrev pub invariant-loop-k : goal.invariant-loop-k
invariant-loop-k l = (j : ℕ) → j < l.k → value_of l.values (l.first + j) ≡ false
