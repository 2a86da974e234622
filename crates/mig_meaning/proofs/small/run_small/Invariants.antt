use Rattle.std.proofs.Common.{◌≡◌, ◌++◌, map, drop}
use Rattle.mig_meaning.specs.Run.{run}
use Rattle.mig_meaning.specs.Told.{outcome_told}
use Rattle.mig_meaning.proofs.small.run_small.Given as goal

abbrev pub invariant-loop-call : goal.invariant-loop-call
invariant-loop-call l = run l.schema l.program l.start l.calls.calls l.supply.keys ≡ map outcome_told l.outcomes ++ run l.schema l.program l.state (drop l.call-index l.calls.calls) l.rest
