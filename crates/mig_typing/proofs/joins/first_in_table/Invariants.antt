use Rattle.std.proofs.Common.{◌≡◌, ℕ, ◌<◌, false}
use Rattle.mig_schema.specs.Joins.{in_one_class}
use Rattle.mig_typing.proofs.joins.first_in_table.Given as goal

abbrev pub invariant-loop-k : goal.invariant-loop-k
invariant-loop-k l = (j : ℕ) → j < l.k → in_one_class l.join l.column (record { table = l.t; column = j }) ≡ false
