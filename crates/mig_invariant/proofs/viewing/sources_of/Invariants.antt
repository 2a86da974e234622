use Rattle.std.proofs.Common.{◌≡◌, take, map}
use Rattle.mig_invariant.proofs.viewing.sources_of.Given as goal

abbrev pub invariant-loop-pair : goal.invariant-loop-pair
invariant-loop-pair l = l.list ≡ map (λ q. q.source) (take l.pair-index l.pairs)
