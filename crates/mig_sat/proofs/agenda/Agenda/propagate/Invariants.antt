use Rattle.std.proofs.Common.{◌≡◌, ℕ, ◌⊎◌}
use Rattle.std.specs.Prelude.{slice_get}
use Rattle.mig_sat.specs.Saying.{IsSilent}
use Rattle.mig_sat.specs.Agendas.{IsAhead}
use Rattle.mig_sat.proofs.agenda.Agenda.propagate.Given as goal

abbrev pub invariant-loop-place : goal.invariant-loop-place
invariant-loop-place l = record {
  lists : l.self.lists.items ≡ l.fn.self.lists.items;
  queued : l.self.queued ≡ l.place;
  through : (n : ℕ) → IsAhead l.fn.self.lists.items l.fn.self.queued l.fn.self.at l.trail.steps n → IsAhead l.fn.self.lists.items l.place l.self.at l.trail.steps n ⊎ IsSilent l.trail.steps (slice_get l.cnf.clauses n);
}
