use Rattle.std.proofs.Common.{◌≡◌, ◌++◌, take}
use Rattle.std.specs.Prelude.{codes}
use Rattle.std.specs.List.{flat_map}
use Rattle.mig_messages.specs.Entries.{call_text}
use Rattle.mig_messages.proofs.entries.put_more_calls.Given as goal

abbrev pub invariant-loop-call : goal.invariant-loop-call
invariant-loop-call l = l.out ≡ l.fn.out ++ flat_map (λ i. codes "; " ++ call_text l.program i) (take l.call-index l.calls)
