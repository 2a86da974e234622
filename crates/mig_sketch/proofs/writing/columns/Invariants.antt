use Rattle.std.proofs.Common.{◌≡◌, take, map}
use Rattle.mig_sketch.specs.Imaging.{looked}
use Rattle.mig_sketch.proofs.writing.columns.Given as goal

abbrev pub invariant-loop-column : goal.invariant-loop-column
invariant-loop-column l = l.list ≡ map (looked l.images l.tree) (take l.column-index l.columns)
