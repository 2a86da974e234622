use Rattle.std.proofs.Common.{◌≡◌, ◌++◌, ◌-◌, ◌+◌, ◌*◌, drop}
use Rattle.mig_steps.specs.Choosing.{chosen_from}
use Rattle.mig_folding.proofs.sifting.+sifting.Given as goal

abbrev pub decreases-push_sifted : goal.decreases-push_sifted
decreases-push_sifted g l = 2 * l.count + 1

abbrev pub decreases-sifted : goal.decreases-sifted
decreases-sifted g l = 2 * l.count

abbrev pub invariant-sifted-loop-x : goal.invariant-sifted-loop-x
invariant-sifted-loop-x g l = chosen_from (g.T.Sieve.may l.test) l.n (l.count - 1) l.before l.x-items ≡ l.all.items ++ chosen_from (g.T.Sieve.may l.test) l.n (l.count - 1) l.before (drop l.x-index l.x-items)
