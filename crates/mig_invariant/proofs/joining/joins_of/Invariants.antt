use Rattle.std.proofs.Common.{◌≡◌, take}
use Rattle.std.specs.List.{flat_map}
use Rattle.mig_invariant.specs.Candidates.{joins_in}
use Rattle.mig_invariant.proofs.joining.joins_of.Given as goal

abbrev pub invariant-loop-f : goal.invariant-loop-f
invariant-loop-f l = l.list.items ≡ flat_map (λ f. joins_in f.body) (take l.f-index l.f-items)
