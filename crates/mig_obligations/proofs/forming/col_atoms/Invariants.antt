use Rattle.std.proofs.Common.{◌≡◌, map, take}
use Rattle.mig_schema.specs.Joins.{tables_of}
use Rattle.mig_algebra.specs.Obligations.{col_atom}
use Rattle.mig_obligations.proofs.forming.col_atoms.Given as goal

abbrev pub invariant-loop-column : goal.invariant-loop-column
invariant-loop-column l = l.atoms.items ≡ map (col_atom (tables_of l.join)) (take l.column-index l.columns)
