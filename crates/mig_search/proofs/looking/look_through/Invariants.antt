use Rattle.std.proofs.Common.{◌-◌, length}
use Rattle.mig_search.proofs.Stops.{IsLooking}
use Rattle.mig_search.proofs.looking.look_through.Given as goal

abbrev pub invariant-choices : goal.invariant-choices
invariant-choices l = IsLooking l.job l.corr l.options l.plan l.fn.tried l.tried l.chooser

abbrev pub decreases-choices : goal.decreases-choices
decreases-choices l = l.options.budget - length l.tried
