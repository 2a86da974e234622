use Rattle.std.proofs.Common.{◌≡◌, ◌++◌, take}
use Rattle.std.specs.List.{flat_map}
use Rattle.mig_corresp.specs.Pairs.{pairs_among}
use Rattle.mig_corresp.proofs.pairing.add_all.Given as goal

abbrev pub invariant-loop-source : goal.invariant-loop-source
invariant-loop-source l = l.list ≡ l.fn.list ++ flat_map (pairs_among l.job l.targets) (take l.source-index l.sources)
