use Rattle.std.proofs.Common.{◌≡◌, map, take}
use Rattle.mig_reading.specs.Named as named
use Rattle.mig_reading.proofs.naming.invariants_of.Given as goal

abbrev pub invariant-loop-fact : goal.invariant-loop-fact
invariant-loop-fact l = l.all.items ≡ map (named.invariant_of l.job) (take l.fact-index l.facts)
