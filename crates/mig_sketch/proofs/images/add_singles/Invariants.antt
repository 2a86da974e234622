use Rattle.std.proofs.Common.{◌≡◌, [], ◌∷◌, ◌++◌, take, map}
use Rattle.mig_sketch.proofs.images.add_singles.Given as goal

abbrev pub invariant-loop-column : goal.invariant-loop-column
invariant-loop-column l = l.sets ≡ l.fn.sets ++ map (λ d. d ∷ []) (take l.column-index l.columns)
