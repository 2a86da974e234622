use Rattle.std.proofs.Common.{◌≡◌, ◌≤◌, ◌+◌, drop}
use Rattle.mig_tokens.specs.Place.{place_from}
use Rattle.mig_tokens.proofs.place.place_behind.Given as goal

abbrev pub invariant-loop-b : goal.invariant-loop-b
invariant-loop-b l = record { so_far : place_from (l.line, l.column) (drop l.b-index l.front) ≡ place_from (1, 1) l.front; lines : l.line ≤ l.b-index + 1; columns : l.column ≤ l.b-index + 1 }
