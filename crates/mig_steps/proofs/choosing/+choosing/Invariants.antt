use Rattle.std.proofs.Common.{◌≡◌, ◌++◌, ◌-◌, ◌+◌, ◌*◌, drop}
use Rattle.mig_steps.specs.Choosing.{chosen_from}
use Rattle.mig_steps.proofs.choosing.+choosing.Given as goal

abbrev pub decreases-push_chosen : goal.decreases-push_chosen
decreases-push_chosen g l = 2 * l.count + 1

abbrev pub decreases-chosen : goal.decreases-chosen
decreases-chosen g l = 2 * l.count

abbrev pub invariant-chosen-loop-x : goal.invariant-chosen-loop-x
invariant-chosen-loop-x g l = chosen_from (g.T.Front.may l.test) l.n (l.count - 1) l.before l.x-items ≡ l.all.items ++ chosen_from (g.T.Front.may l.test) l.n (l.count - 1) l.before (drop l.x-index l.x-items)
