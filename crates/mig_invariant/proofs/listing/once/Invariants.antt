use Rattle.std.proofs.Common.{◌≡◌, ◌++◌, length}
use Rattle.std.specs.Vec.Iter.{into_iter_items, into_iter_len}
use Rattle.mig_invariant.specs.Candidates as spec
use Rattle.mig_invariant.proofs.listing.once.Given as goal

abbrev pub invariant-loop-fact : goal.invariant-loop-fact
invariant-loop-fact l = (l.kept.items ≡ spec.once l.yielded) × (l.yielded ++ into_iter_items l.fact-iterator ≡ into_iter_items l.initial.fact-iterator)
    × (into_iter_len l.fact-iterator ≡ length (into_iter_items l.fact-iterator))
