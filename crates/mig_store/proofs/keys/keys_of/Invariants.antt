use Rattle.std.proofs.Common.{◌≡◌, ◌*◌}
use Rattle.mig_store.specs.Runs.{numbers_from}
use Rattle.mig_store.proofs.keys.keys_of.Given as goal

abbrev pub invariant-loop-n : goal.invariant-loop-n
invariant-loop-n l = l.keys ≡ numbers_from l.first l.n
