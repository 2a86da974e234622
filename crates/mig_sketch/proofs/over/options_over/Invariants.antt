use Rattle.std.proofs.Common.{◌≡◌, take}
use Rattle.std.specs.List.{flat_map}
use Rattle.mig_sketch.proofs.over.options_over.Given as goal

abbrev pub invariant-loop-tree : goal.invariant-loop-tree
invariant-loop-tree g l = l.options ≡ flat_map (g.T.Over.over l.old) (take l.tree-index l.trees)
