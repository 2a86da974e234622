use Rattle.std.proofs.Common.{◌≡◌, ◌++◌, take, map}
use Rattle.std.specs.Prelude.{filter}
use Rattle.mig_corresp.specs.Used.{must_come}
use Rattle.mig_corresp.specs.Coding.{some_origin}
use Rattle.mig_corresp.proofs.coding.add_origins.Given as goal

abbrev pub invariant-loop-column : goal.invariant-loop-column
invariant-loop-column l = l.clauses ≡ l.fn.clauses ++ map (some_origin l.pairs) (filter (must_come l.job) (take l.column-index l.columns))
