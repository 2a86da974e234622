use Rattle.std.proofs.Common.{◌≡◌, ◌++◌, take, map}
use Rattle.mig_sketch.specs.Options.{delete_from}
use Rattle.mig_sketch.proofs.deletes.add_deletes.Given as goal

abbrev pub invariant-loop-tables : goal.invariant-loop-tables
invariant-loop-tables l = l.options ≡ l.fn.options ++ map (delete_from l.tree l.cond) (take l.tables-index l.sets)
