use Rattle.std.proofs.Common.{◌≡◌, ◌++◌, take}
use Rattle.std.specs.Prelude.{codes}
use Rattle.std.specs.List.{flat_map}
use Rattle.mig_messages.specs.Entries.{value_text}
use Rattle.mig_messages.proofs.entries.put_others.Given as goal

abbrev pub invariant-loop-value : goal.invariant-loop-value
invariant-loop-value l = l.out ≡ l.fn.out ++ flat_map (λ v. codes ", " ++ value_text v) (take l.value-index l.values)
