use Rattle.std.proofs.Common.{◌≡◌, map, take}
use Rattle.mig_complete.specs.Coding.{unpicked}
use Rattle.mig_complete.proofs.coding.block_clause.Given as goal

abbrev pub invariant-loop-pick : goal.invariant-loop-pick
invariant-loop-pick l = l.clause ≡ map (unpicked l.sizes) (take l.pick-index l.block.picks)
