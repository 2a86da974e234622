use Rattle.std.proofs.Common.{◌≡◌, ◌++◌, take}
use Rattle.mig_invariant.specs.Candidates.{outputs_from}
use Rattle.mig_invariant.proofs.viewing.add_images.Given as goal

abbrev pub invariant-loop-target : goal.invariant-loop-target
invariant-loop-target l = l.list.items ≡ l.fn.list.items ++ outputs_from (take l.target-index l.targets) l.corr l.source
