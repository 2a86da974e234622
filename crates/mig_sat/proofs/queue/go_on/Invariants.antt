use Rattle.std.proofs.Common.{◌≤◌}
use Rattle.mig_sat.specs.Agendas.{AreSilent}
use Rattle.mig_sat.proofs.queue.go_on.Given as goal

abbrev pub invariant-loop-index : goal.invariant-loop-index
invariant-loop-index l = record {
  least : l.fn.at ≤ l.index;
  before : AreSilent l.cnf.clauses l.trail.steps l.list l.fn.at l.index;
}
