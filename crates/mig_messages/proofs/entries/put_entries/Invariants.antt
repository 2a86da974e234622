use Rattle.std.proofs.Common.{◌≡◌, ◌++◌, take}
use Rattle.mig_messages.specs.Entries.{entry_lines}
use Rattle.mig_messages.proofs.entries.put_entries.Given as goal

abbrev pub invariant-loop-at : goal.invariant-loop-at
invariant-loop-at l = l.out ≡ l.fn.out ++ entry_lines l.program 1 (take l.at l.tried)
