use Rattle.std.proofs.Common.{◌≡◌, take}
use Rattle.mig_invariant.specs.Columns.{columns_within}
use Rattle.mig_invariant.proofs.columns.columns_within.Given as goal

abbrev pub invariant-loop-c : goal.invariant-loop-c
invariant-loop-c l = l.list ≡ columns_within (take l.c-index l.columns) l.tables
