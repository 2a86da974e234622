use Rattle.std.proofs.Common.{◌≡◌}
use Rattle.mig_complete.specs.Coding.{one_of}
use Rattle.mig_complete.proofs.coding.one_of.Given as goal

abbrev pub invariant-loop-k : goal.invariant-loop-k
invariant-loop-k l = l.clause ≡ one_of l.first l.k
