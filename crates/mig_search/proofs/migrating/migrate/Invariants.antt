use Rattle.mig_search.proofs.Stops.{IsMigrating}
use Rattle.mig_search.proofs.migrating.migrate.Given as goal

abbrev pub invariant-loop-taken : goal.invariant-loop-taken
invariant-loop-taken l = IsMigrating l.job l.options l.ranker l.tried l._taken
