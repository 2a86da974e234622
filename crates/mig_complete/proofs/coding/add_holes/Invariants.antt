use Rattle.std.proofs.Common.{◌≡◌, ◌++◌, take}
use Rattle.mig_sketch.specs.Choices.{total}
use Rattle.mig_complete.specs.Coding.{holes}
use Rattle.mig_complete.proofs.coding.add_holes.Given as goal

abbrev pub invariant-loop-size : goal.invariant-loop-size
invariant-loop-size l = record {
  first : l.first ≡ total (take l.size-index l.sizes);
  clauses : l.clauses ≡ l.fn.clauses ++ holes (total l.sizes) 0 (take l.size-index l.sizes);
}
