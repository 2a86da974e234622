use Rattle.std.proofs.Common.{◌≡◌, ◌∷◌, ◌++◌, [], cond, take}
use Rattle.std.specs.Prelude.{◌==◌}
use Rattle.mig_base.specs.Lists.{numbered}
use Rattle.mig_meaning.proofs.inserting.with_row.Given as goal

abbrev pub invariant-loop-n : goal.invariant-loop-n
invariant-loop-n l = l.tables ≡ numbered (λ n rows. cond (n == l.t) (rows ++ (record { id = l.state.next; row = record { values = l.values } } ∷ [])) rows) 0 (take l.n l.before)
