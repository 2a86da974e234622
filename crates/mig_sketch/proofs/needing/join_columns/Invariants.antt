use Rattle.std.proofs.Common.{◌≡◌, ◌++◌, take}
use Rattle.std.specs.List.{flat_map}
use Rattle.mig_schema.specs.Columns.{columns_in}
use Rattle.mig_schema.specs.declared.programs.Joined.{Joined}
use Rattle.mig_sketch.proofs.needing.join_columns.Given as goal

abbrev pub invariant-loop-joined : goal.invariant-loop-joined
invariant-loop-joined l = l.list ≡ columns_in l.schema l.join.first ++ flat_map (λ (m : Joined). columns_in l.schema m.table) (take l.joined-index l.join.more)
