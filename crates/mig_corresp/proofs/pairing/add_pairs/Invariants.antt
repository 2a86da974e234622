use Rattle.std.proofs.Common.{◌≡◌, ◌++◌, take}
use Rattle.mig_corresp.specs.Pairs.{pairs_among}
use Rattle.mig_corresp.proofs.pairing.add_pairs.Given as goal

abbrev pub invariant-loop-target : goal.invariant-loop-target
invariant-loop-target l = l.list ≡ l.fn.list ++ pairs_among l.job (take l.target-index l.targets) l.source
