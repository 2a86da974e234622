use Rattle.std.proofs.Common.{◌≡◌, ◌++◌, map}
use Rattle.std.specs.List.{flat_map, range_with_len}
use Rattle.mig_listing.specs.Choices.{choices}
use Rattle.mig_sketch.specs.Options.{delete_from}
use Rattle.mig_sketch.proofs.deletes.add_all_deletes.Given as goal

abbrev pub invariant-loop-smaller : goal.invariant-loop-smaller
invariant-loop-smaller l = l.options ≡ l.fn.options ++ map (delete_from l.tree l.cond) (flat_map (λ n. choices n l.tables) (range_with_len 1 l.smaller))
