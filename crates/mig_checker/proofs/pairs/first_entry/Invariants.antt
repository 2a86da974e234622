use Rattle.std.proofs.Common.{◌≡◌, ℕ, ◌<◌, false}
use Rattle.mig_obligations.specs.Pairs.{sides_of}
use Rattle.mig_checker.specs.declared.places.InEntry.{InEntry}
use Rattle.mig_checker.specs.Inside.{entry_at_broken}
use Rattle.mig_checker.proofs.pairs.first_entry.Given as goal

abbrev pub invariant-loop-k : goal.invariant-loop-k
invariant-loop-k l = (j : ℕ) (q : InEntry) → j < l.k → entry_at_broken (sides_of l.facts.pair.now) l.facts.invariants.now.list l.entries j q ≡ false
