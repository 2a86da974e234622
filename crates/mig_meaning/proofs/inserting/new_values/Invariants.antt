use Rattle.std.proofs.Common.{◌≡◌, take}
use Rattle.mig_schema.specs.declared.tables.Column.{Column}
use Rattle.mig_base.specs.Lists.{numbered}
use Rattle.mig_schema.specs.Columns.{columns_of}
use Rattle.mig_meaning.specs.Effect.{class_value}
use Rattle.mig_meaning.specs.Told.{given_told}
use Rattle.mig_meaning.proofs.inserting.new_values.Given as goal

abbrev pub invariant-loop-n : goal.invariant-loop-n
invariant-loop-n l = l.all ≡ numbered (λ n (c : Column). class_value (given_told l.given) l.joined l.values (record { table = l.t; column = n })) 0 (take l.n (columns_of l.schema l.t))
