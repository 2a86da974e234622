use Rattle.std.proofs.Common.{◌≡◌, ◌∷◌, ◌++◌, [], map}
use Rattle.mig_meaning.specs.declared.states.Placed.{Placed}
use Rattle.mig_calls.proofs.joining.put_longer.Given as goal

abbrev pub invariant-loop-row : goal.invariant-loop-row
invariant-loop-row l = l.all.items ≡ l.initial.all.items ++ map (λ (p : Placed). l.choice ++ p ∷ []) l.yielded
