use Rattle.std.proofs.Common.{◌≡◌}
use Rattle.std.specs.Prelude.{filter}
use Rattle.mig_meaning.specs.Conditions.{cases_true}
use Rattle.mig_meaning.specs.Told.{given_told}
use Rattle.mig_meaning.proofs.conditions.those_met.Given as goal

abbrev pub invariant-loop-row : goal.invariant-loop-row
invariant-loop-row l = l.met.items ≡ filter (λ e. cases_true (given_told l.given) l.tables e l.cases) l.yielded
