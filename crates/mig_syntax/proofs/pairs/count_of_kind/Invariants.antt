use Rattle.std.proofs.Common.{◌≡◌, ◌-◌, ◌^◌, min, take}
use Rattle.std.specs.List.{flat_map}
use Rattle.mig_schema.specs.declared.tables.Table.{Table}
use Rattle.mig_syntax.specs.Pairs.{of_kind}
use Rattle.mig_syntax.proofs.pairs.count_of_kind.Given as goal

abbrev pub invariant-loop-table : goal.invariant-loop-table
invariant-loop-table l = l.count ≡ min (of_kind l.kind (flat_map (λ (t : Table). t.columns) (take l.table-index l.table-items))) (2 ^ 64 - 1)
