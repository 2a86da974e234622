use Rattle.std.proofs.Common.{◌≤◌, ◌+◌}
use Rattle.mig_reading.proofs.places.place_behind.Given as goal

abbrev pub invariant-loop-b : goal.invariant-loop-b
invariant-loop-b l = record { lines : l.line ≤ l.b-index + 1; columns : l.column ≤ l.b-index + 1 }
