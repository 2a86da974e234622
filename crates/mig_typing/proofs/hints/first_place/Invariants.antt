use Rattle.std.proofs.Common.{◌≡◌, ℕ, ◌<◌, false}
use Rattle.mig_schema.specs.declared.faults.HintRule.{HintRule}
use Rattle.mig_typing.specs.Broken.{hint_broken}
use Rattle.mig_typing.proofs.hints.first_place.Given as goal

abbrev pub invariant-loop-k : goal.invariant-loop-k
invariant-loop-k l = (r : HintRule) (j : ℕ) → j < l.k → hint_broken l.job r j ≡ false
