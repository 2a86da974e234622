use Rattle.std.proofs.Common.{◌≡◌, ◌++◌, take, map}
use Rattle.std.specs.Prelude.{filter}
use Rattle.mig_corresp.specs.Used.{must_go}
use Rattle.mig_corresp.specs.Coding.{some_image}
use Rattle.mig_corresp.proofs.coding.add_images.Given as goal

abbrev pub invariant-loop-column : goal.invariant-loop-column
invariant-loop-column l = l.clauses ≡ l.fn.clauses ++ map (some_image l.pairs) (filter (must_go l.job) (take l.column-index l.columns))
