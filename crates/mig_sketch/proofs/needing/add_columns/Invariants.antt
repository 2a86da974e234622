use Rattle.std.proofs.Common.{◌≡◌, ◌++◌, take}
use Rattle.mig_base.specs.Lists.{numbered}
use Rattle.mig_schema.specs.declared.tables.Column.{Column}
use Rattle.mig_sketch.proofs.needing.add_columns.Given as goal

abbrev pub invariant-loop-n : goal.invariant-loop-n
invariant-loop-n l = l.list ≡ l.fn.list ++ numbered (λ n (c : Column). record { table = l.t; column = n }) 0 (take l.n l.items)
