use Rattle.std.proofs.Common.{◌≡◌, ◌≤◌, ◌-◌, length}
use Rattle.mig_tokens.specs.Place.{behind_tokens}
use Rattle.mig_tokens.proofs.place.behind_tokens.Given as goal

abbrev pub invariant-loop : goal.invariant-loop
invariant-loop l = record { so_far : behind_tokens (l.count - l.counter) l.rest ≡ behind_tokens l.count l.bytes; no_longer : length l.rest ≤ length l.bytes }
