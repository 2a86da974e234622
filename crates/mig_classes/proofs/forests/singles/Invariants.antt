use Rattle.std.proofs.Common.{◌≡◌, ℕ, ◌<◌, length}
use Rattle.mig_classes.specs.Forests.{parent}
use Rattle.mig_classes.proofs.forests.singles.Given as goal

abbrev pub invariant-loop-i : goal.invariant-loop-i
invariant-loop-i l = (length l.parents.items ≡ l.i) × ((k : ℕ) → k < l.i → parent l.parents.items k ≡ k)
