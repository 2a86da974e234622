use Rattle.std.proofs.Common.{◌≡◌, ℕ, List, take}
use Rattle.mig_sketch.specs.Choices.{total}
use Rattle.mig_complete.specs.Coding.{Codes}
use Rattle.mig_complete.proofs.decoding.decode.Given as goal

abbrev pub invariant-loop-size : goal.invariant-loop-size
invariant-loop-size l = record {
  first : l.first ≡ total (take l.size-index l.sizes);
  picks : (ps : List ℕ) → Codes l.values 0 l.sizes ps → l.picks.items ≡ take l.size-index ps;
}
