use Rattle.std.proofs.Common.{◌≡◌, ◌++◌, take}
use Rattle.std.specs.List.{flat_map}
use Rattle.mig_corresp.specs.Coding.{few_images}
use Rattle.mig_corresp.proofs.coding.add_few.Given as goal

abbrev pub invariant-loop-column : goal.invariant-loop-column
invariant-loop-column l = l.clauses ≡ l.fn.clauses ++ flat_map (few_images l.pairs) (take l.column-index l.columns)
