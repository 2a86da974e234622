use Rattle.std.proofs.Common.{◌≡◌, take}
use Rattle.std.specs.List.{flat_map}
use Rattle.mig_invariant.specs.Candidates.{outputs_from}
use Rattle.mig_invariant.proofs.viewing.all_images.Given as goal

abbrev pub invariant-loop-source : goal.invariant-loop-source
invariant-loop-source l = l.list.items ≡ flat_map (outputs_from l.targets l.corr) (take l.source-index l.sources)
